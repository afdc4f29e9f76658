-- What is found of an expression and of its paths, as what is wrong with the formula.
use Rattle.std.proofs.Common.{◌≡◌, ◌⊎◌, inl, inr, ℕ, ◌<◌, Bool, true, false, List, length, Option, Some, None, refl, sym, ap, subst, ◌∙◌}
use Rattle.std.specs.Prelude.{Any, Contains, IsSomeAnd}
use Rattle.std.specs.Bool.{Decides, then_some}
use Rattle.std.specs.declared.cmp.Ordering.TheVariants.{Less}
use Rattle.ob_base.specs.Limits.{max_path_steps}
use Rattle.ob_base.specs.Syntax.{Tree}
use Rattle.ob_syntax.specs.Grammar.{SpellAtMostOneTree}
use Rattle.ob_syntax.specs.Lexemes.{Lexeme}
use Rattle.ob_expr.specs.TypedTree.{TypedTree}
use Rattle.ob_definition.specs.declared.fault.SchemaFault.{SchemaFault}
use Rattle.ob_definition.specs.declared.fault.Spot.{Spot}
use Rattle.ob_definition.specs.declared.wrong.Wrong.{Wrong}
use Rattle.ob_definition.specs.declared.wrong.Wrong.TheVariants as wrong
use Rattle.ob_definition.specs.Findings.{Adds, IsAt, IsFaultAt, fault_at}
use Rattle.ob_definition.specs.Members.{is_own_computed}
use Rattle.ob_definition.specs.Ranking.{Rank, rank, rank_order}
use Rattle.ob_definition.proofs.CallerLemmas.{Adds-both, Adds-none, Adds-same, Adds-when, IsTold}
use Rattle.ob_schema.specs.declared.info.Step.{Step}
use Rattle.ob_registry.specs.Faults.{HasUncovered}
use Rattle.ob_schema.specs.Formulas.{Declares, HasFormula, IsCovered, Place, formula_paths, paths_by_role, read_paths}
use Rattle.ob_schema.specs.Paths.{path_from}
use Rattle.ob_registry.specs.Telling.{IsChecked, IsCoverWrong, IsFormulaFault, IsFormulaWrong, IsPathWrong, IsReadingWrong, IsTreeOf, names_by, paths_by_names, reads_by, spot_of}
use Rattle.ob_registry.proofs.Drafting.{declared_are, depends_are, formula_paths_are, is_typed, reads_of, right_tree}
use Rattle.ob_schema.proofs.CallerLemmas.{contains-none}
use Rattle.ob_registry.proofs.Reading.{not_computed, one_formula, one_variant, right}

-- one thing that is wrong, where all others are told alike
Adds-alike : (IsWrong : Wrong → Type 0) (v : Wrong) (spot : Spot) (a b : Option SchemaFault) → IsWrong v
    → ((w : Wrong) → IsWrong w → rank (fault_at w spot) ≡ rank (fault_at v spot)) → Adds (IsAt (Some v) spot) a b → Adds (IsFaultAt spot IsWrong) a b
Adds-alike IsWrong v spot a b is alike adds = record {
  among = λ first e. elim (adds.among first e) as (λ _. (a ≡ Some first) ⊎ IsFaultAt spot IsWrong first) [ inl old ↦ inl old | inr at ↦ inr (v, is, at) ];
  least = λ why f. subst (λ (r : Rank). IsSomeAnd b (λ first. rank_order r (rank first) ≡ Less → ⊥)) (sym (ap rank f.2 ∙ alike f.0 f.1)) (adds.least (fault_at v spot) refl);
  kept = adds.kept;
}

module _ (unique : (tokens : List Lexeme) → SpellAtMostOneTree tokens) (p : Place) where
  -- what is wrong with an expression itself
  pub found_reading : (v : Wrong) (a b : Option SchemaFault) → IsReadingWrong p v → Adds (IsAt (Some v) (spot_of p.member)) a b → Adds (IsFaultAt (spot_of p.member) (IsReadingWrong p)) a b
  found_reading v a b h adds = Adds-alike (IsReadingWrong p) v (spot_of p.member) a b h (one_variant unique p (spot_of p.member) v h) adds

  -- nothing, where it is right
  pub found_right : (tree : Tree) (typed : TypedTree) (a : Option SchemaFault) → HasFormula p tree typed → Adds (IsFaultAt (spot_of p.member) (IsReadingWrong p)) a a
  found_right tree typed a has = Adds-none (IsFaultAt (spot_of p.member) (IsReadingWrong p)) a (λ why f. right unique p tree typed has f.0 f.1)

  -- a field as it was found: what its text spells, the expression where it is right, and the paths on which it depends
  module _ (computed : is_own_computed p.member ≡ true) (tree : Option Tree) (spelled : IsTreeOf p.member.def tree) (typed : Option TypedTree)
      (checked : IsChecked p tree typed)
      (depends : List (List Step)) (are : depends ≡ paths_by_role p.member.role (reads_by p.number typed) (paths_by_names p.models p.number (names_by p.member.def tree))) where
    abbrev names : List (List (List ℕ))
    names = names_by p.member.def tree

    abbrev reads : List (List Step)
    reads = reads_by p.number typed

    abbrev spot : Spot
    spot = spot_of p.member

    -- what is wrong with its expression, with its declared paths, with what it reads, and with long paths
    abbrev OfReading : SchemaFault → Type 0
    OfReading = IsFaultAt spot (IsReadingWrong p)

    abbrev OfNames : SchemaFault → Type 0
    OfNames why = Any (λ path. IsFaultAt spot (IsPathWrong (path_from p.models p.number path)) why) names

    abbrev OfReads : SchemaFault → Type 0
    OfReads why = Any (λ read. IsFaultAt spot (IsCoverWrong depends read) why) reads

    module _ (long : Bool) (decides : Decides long (Any (λ steps. max_path_steps < length steps) depends)) where
      abbrev OfLong : SchemaFault → Type 0
      OfLong = IsTold long (fault_at wrong.Limit spot)

      of_reading : (w : Wrong) → IsReadingWrong p w → IsFormulaWrong p w
      of_reading wrong.Field h = inl h
      of_reading wrong.Kind h = h
      of_reading wrong.Limit h = inl h
      of_reading (wrong.Text why) h = h
      of_reading _ h = absurd h

      of_path : (path : List (List ℕ)) → Contains names path → (w : Wrong) → IsPathWrong (path_from p.models p.number path) w → IsFormulaWrong p w
      of_path path among wrong.Field h = inr (computed, (path, (declared_are unique p computed tree spelled path).0 among, h))
      of_path path among wrong.Path h = inr (computed, (path, (declared_are unique p computed tree spelled path).0 among, h))
      of_path path among _ h = absurd h

      of_read : (read : List Step) → Contains reads read → (w : Wrong) → IsCoverWrong depends read w → IsFormulaWrong p w
      of_read read among wrong.Path h = inl (by typed refl)
        where
          by : (o : Option TypedTree) → typed ≡ o → HasUncovered p
          by None e = absurd (contains-none read (subst (λ (o : Option TypedTree). Contains (reads_by p.number o) read) e among))
          by (Some t) e =
              let r = right_tree unique p computed tree spelled typed checked t e in
              let c : Contains (read_paths p.number t) read = subst (λ (o : Option TypedTree). Contains (reads_by p.number o) read) e among in
              let same = formula_paths_are unique p computed tree spelled typed checked depends are t e in
              (r.0, t, r.2, (c.0, read, c.1, c.2, λ covered. h (subst (λ (l : List (List Step)). IsCovered l read) (sym same) covered)))
      of_read read among _ h = absurd h

      to : (why : SchemaFault) → ((OfReading why ⊎ OfNames why) ⊎ OfReads why) ⊎ OfLong why → IsFormulaFault p why
      to why (inl (inl (inl (w, h, e)))) = (w, of_reading w h, e)
      to why (inl (inl (inr (k, path, within, is, (w, h, e))))) = (w, of_path path (k, within, is) w h, e)
      to why (inl (inr (k, read, within, is, (w, h, e)))) = (w, of_read read (k, within, is) w h, e)
      to why (inr (is, e)) =
          let any = decides.0 is in
          let along = (depends_are unique p computed tree spelled typed checked depends are any.1).0 (any.0, any.2, any.3) in
          (wrong.Limit, inr (any.1, along, any.4), e)

      declared_wrong : (why : SchemaFault) (path : List (List ℕ)) (w : Wrong) → Declares p.member.def path → IsPathWrong (path_from p.models p.number path) w → why ≡ fault_at w spot → OfNames why
      declared_wrong why path w declares h e =
          let among = (declared_are unique p computed tree spelled path).1 declares in
          (among.0, path, among.1, among.2, (w, h, e))

      from : (why : SchemaFault) (w : Wrong) → IsFormulaWrong p w → why ≡ fault_at w spot → ((OfReading why ⊎ OfNames why) ⊎ OfReads why) ⊎ OfLong why
      from why wrong.Field (inl h) e = inl (inl (inl (wrong.Field, h, e)))
      from why wrong.Field (inr (is, (path, declares, h))) e = inl (inl (inr (declared_wrong why path wrong.Field declares h e)))
      from why wrong.Kind h e = inl (inl (inl (wrong.Kind, h, e)))
      from why wrong.Path (inl (x, t, has, (k, read, within, is, h))) e =
          let same = is_typed unique p computed tree spelled typed checked x t has in
          let r = right_tree unique p computed tree spelled typed checked t same in
          let one = one_formula unique p r.0 x t t r.2 has in
          let paths : depends ≡ formula_paths p x t = formula_paths_are unique p computed tree spelled typed checked depends are t same ∙ ap (λ (y : Tree). formula_paths p y t) (sym one.0) in
          let c = subst (λ (l : List (List Step)). Contains l read) (sym (reads_of unique p computed tree spelled typed checked x t has)) (k, within, is) in
          inl (inr (c.0, read, c.1, c.2, (wrong.Path, (λ covered. h (subst (λ (l : List (List Step)). IsCovered l read) paths covered)), e)))
      from why wrong.Path (inr (is, (path, declares, h))) e = inl (inl (inr (declared_wrong why path wrong.Path declares h e)))
      from why wrong.Limit (inl h) e = inl (inl (inl (wrong.Limit, h, e)))
      from why wrong.Limit (inr (steps, along, h)) e =
          let among = (depends_are unique p computed tree spelled typed checked depends are steps).1 along in
          inr (decides.1 (among.0, steps, among.1, among.2, h), e)
      from why (wrong.Text other) h e = inl (inl (inl (wrong.Text other, h, e)))
      from why _ h e = absurd h

      -- what is found of the field
      pub found_formula : (a b c d e : Option SchemaFault) → Adds OfReading a b → Adds OfNames b c → Adds OfReads c d → Adds (IsAt (then_some long wrong.Limit) spot) d e → Adds (IsFormulaFault p) a e
      found_formula a b c d e reading named read at_end =
          Adds-same (λ why. ((OfReading why ⊎ OfNames why) ⊎ OfReads why) ⊎ OfLong why) (IsFormulaFault p) a e to (λ why f. from why f.0 f.1 f.2)
          (Adds-both (λ why. (OfReading why ⊎ OfNames why) ⊎ OfReads why) OfLong a d e
          (Adds-both (λ why. OfReading why ⊎ OfNames why) OfReads a c d (Adds-both OfReading OfNames a b c reading named) read)
          (Adds-when long wrong.Limit spot d e at_end))

-- a field without an expression of its own
pub found_plain : (p : Place) (a : Option SchemaFault) → is_own_computed p.member ≡ false → Adds (IsFormulaFault p) a a
found_plain p a plain = Adds-none (IsFormulaFault p) a (λ why f. not_computed p plain f.0 f.1)
