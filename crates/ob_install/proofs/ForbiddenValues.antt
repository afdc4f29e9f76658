-- What is forbidden of the values of rows that modules bring: value by value, and row by row.
use Rattle.std.proofs.Common.{◌≡◌, ◌<◌, ◌≤◌, ◌+◌, ℕ, List, length, get_or, take, None, sym, ap, subst, ◌∙◌, ◌⊎◌, inl, inr, arith}
use Rattle.std.specs.Prelude.{Any, slice_get, ⊤}
use Rattle.std.proofs.lemmas.Bool.{cases_lt}
use Rattle.std.proofs.lemmas.List.{get_or-take, get_or_default, length-take-le, take_all}
use Rattle.std.proofs.lemmas.Option.{slice_get_within}
use Rattle.ob_base.specs.declared.id.Cell.{Cell}
use Rattle.ob_base.specs.declared.id.FieldNo.{FieldNo}
use Rattle.ob_base.specs.declared.id.ModelNo.{ModelNo}
use Rattle.ob_base.specs.declared.refusal.Broken.{Broken}
use Rattle.ob_base.specs.declared.refusal.BrokenKind.{BrokenKind}
use Rattle.ob_base.specs.declared.refusal.BrokenKind.TheVariants as kind
use Rattle.ob_install.proofs.ForbiddenRows.{at-number, found-more, none-fewer}
use Rattle.ob_install.specs.Install.{Course, Gives, GivesFor, IsForbidden, IsMadeFor}
use Rattle.ob_install.specs.InstallSteps.{Finds, FindsBy, FindsManaged, Forbids, IsFound, IsFoundBy}
use Rattle.ob_schema.specs.Tables.{key_of}
use Rattle.ob_schema.specs.declared.info.ModelInfo.{ModelInfo}
use Rattle.ob_schema.specs.declared.preset.PresetRow.{PresetRow}
use Rattle.ob_schema.specs.declared.preset.PresetValue.{PresetValue}
use Rattle.ob_tables.proofs.CallerLemmas.{known_at, tell_and, told_and}

-- one of the first so many and one more is one of these, or it is the last
any-more : {X : Type 0} (P : X → Type 0) (xs : List X) (i : ℕ) (last : X) → i < length xs → last ≡ get_or xs i last → Any P (take (i + 1) xs) → Any P (take i xs) ⊎ P last
any-more P xs i last within own (k, x, among, is, known) =
    let few = length-take-le (i + 1) xs (omega arith) in
    let less = length-take-le i xs (omega arith) in
    let at = get_or-take (i + 1) xs k x (omega (arith, among, few)) in
    elim (cases_lt k i) [
      | inl before ↦ inl (k, x, omega (arith, before, less), get_or-take i xs k x before ∙ sym at ∙ is, known)
      | inr past ↦
          let here : k ≡ i = omega (arith, among, few, past) in
          let same : x ≡ last = sym is ∙ at ∙ ap (λ (n : ℕ). get_or xs n x) here ∙ get_or_default xs i x last within ∙ sym own in
          inr (subst P same known)
    ]

module _ (models : List ModelInfo) (at : Course) where
  -- nothing is forbidden of cells of two kinds, where nothing is of either
  none-of-both : (P Q R : Cell → Type 0) (by : ℕ) → ((cell : Cell) → R cell → P cell ⊎ Q cell) → FindsBy models at P by None → FindsBy models at Q by None → FindsBy models at R by None
  none-of-both P Q R by split first second = λ n b made h. away b.kind b.cell n
      (λ p. first n b made p) (λ q. second n b made q) h where
        away : (k : BrokenKind) (cell : Cell) (n : ℕ) → (Forbids models at P by n k cell → ⊥) → (Forbids models at Q by n k cell → ⊥) → Forbids models at R by n k cell → ⊥
        away kind.Managed cell n p q h = elim (split cell h.2) [ inl is ↦ p (h.0, h.1, is) | inr is ↦ q (h.0, h.1, is) ]
        away kind.Fixed cell n p q h = elim (split cell h.1) [ inl is ↦ p (h.0, is, h.2) | inr is ↦ q (h.0, is, h.2) ]
        away _ cell n p q h = h

  -- some of these values are for a cell
  abbrev pub GivenAmong : ℕ → ModelNo → List (FieldNo × PresetValue) → Cell → Type 0
  GivenAmong by model values cell = Any (λ given. GivesFor models at by model given.0 cell) values

  -- no values give nothing
  pub among-none : (by : ℕ) (model : ModelNo) (values : List (FieldNo × PresetValue)) → FindsBy models at (GivenAmong by model (take 0 values)) by None
  among-none by model values = λ n b made h. away b.kind b.cell n h where
    away : (k : BrokenKind) (cell : Cell) (n : ℕ) → Forbids models at (GivenAmong by model (take 0 values)) by n k cell → ⊥
    away kind.Managed cell n h = let among = h.2 in let less = among.2 in absurd (omega (arith, less))
    away kind.Fixed cell n h = let among = h.1 in let less = among.2 in absurd (omega (arith, less))
    away _ cell n h = h

  -- one value more
  pub among-more : (by : ℕ) (model : ModelNo) (values : List (FieldNo × PresetValue)) (i : ℕ) (one : FieldNo × PresetValue) → i < length values → one ≡ get_or values i one
      → FindsBy models at (GivenAmong by model (take i values)) by None → FindsBy models at (GivesFor models at by model one.0) by None → FindsBy models at (GivenAmong by model (take (i + 1) values)) by None
  among-more by model values i one within own first last =
      none-of-both (GivenAmong by model (take i values)) (GivesFor models at by model one.0) (GivenAmong by model (take (i + 1) values)) by
      (λ cell. any-more (λ given. GivesFor models at by model given.0 cell) values i one within own) first last

  module _ (n : ℕ) (row : PresetRow) (within : n < length at.rows) (own : row ≡ get_or at.rows n row) where
    -- all values of a row
    pub among-all : (i : ℕ) → length row.values ≤ i → FindsBy models at (GivenAmong n row.model (take i row.values)) n None → FindsBy models at (Gives models at n) n None
    among-all i all none =
        none-fewer models at (Gives models at n) (GivenAmong n row.model (take i row.values)) n
        (λ cell gives. subst (λ (vs : List (FieldNo × PresetValue)). GivenAmong n row.model vs cell) (sym (take_all i row.values all))
        (known_at (slice_get at.rows n) row (λ r. Any (λ given. GivesFor models at n r.model given.0 cell) r.values) (at-number at.rows n row within own) gives))
        none

    -- one of them
    pub among-one : (i : ℕ) (one : FieldNo × PresetValue) (b : Broken)
        → i < length row.values → one ≡ get_or row.values i one → IsFoundBy models at (GivesFor models at n row.model one.0) n b → IsFoundBy models at (Gives models at n) n b
    among-one i one b low is found =
        found-more models at (GivesFor models at n row.model one.0) (Gives models at n) n b
        (λ cell gives. tell_and (slice_get at.rows n) row (λ r. Any (λ given. GivesFor models at n r.model given.0 cell) r.values) (at-number at.rows n row within own) (i, one, low, sym is, gives))
        found

  -- ---- row by row

  -- what is found of a row is forbidden
  pub found-in : (n : ℕ) (b : Broken) → IsFoundBy models at (Gives models at n) n b → IsFound models at b
  found-in n b found = record { number = found.number; field = found.field; owner = found.owner; why = by b.kind b.cell found.number found.why } where
    by : (k : BrokenKind) (cell : Cell) (m : ℕ) → Forbids models at (Gives models at n) n m k cell → IsForbidden models at m k cell
    by kind.Managed cell m h = (h.0, inr (h.1, (n, h.2)))
    by kind.Fixed cell m h = (h.0, (n, h.1, h.2))
    by _ cell m h = h

  -- nothing is, where no row of a managed model is made and nothing is of any row
  pub none-in-all : FindsManaged models at (λ _. ⊤) None → ((n : ℕ) → n < length at.rows → FindsBy models at (Gives models at n) n None) → Finds models at None
  none-in-all managed each = λ n b made h. away b.kind b.cell n made
      (λ k is gives. let (row, there, said) = told_and (slice_get at.rows k) (λ r. Any (λ given. GivesFor models at k r.model given.0 b.cell) r.values) gives in
      each k (slice_get_within at.rows k row there) n (record { kind = is; cell = b.cell }) made)
      h where
        away : (k : BrokenKind) (cell : Cell) (n : ℕ) → IsMadeFor models at n (key_of cell.model cell.id)
            → ((m : ℕ) (k : BrokenKind) → Gives models at m cell → Forbids models at (Gives models at m) m n k cell → ⊥) → IsForbidden models at n k cell → ⊥
        away kind.Managed cell n made never (group, inl is) = managed cell tt (record { number = n; owner = made; no_group = group; managed = is })
        away kind.Managed cell n made never (group, inr (readonly, (m, gives))) = never m kind.Managed gives (group, readonly, gives)
        away kind.Fixed cell n made never (fixed, (m, gives, changes)) = never m kind.Fixed gives (fixed, gives, changes)
        away _ cell n made never h = h
