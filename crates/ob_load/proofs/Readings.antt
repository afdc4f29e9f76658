-- What reading comes to, step by step.
use Rattle.std.proofs.Common.{◌≡◌, ℕ, ◌<◌, Bool, true, false, List, [], ◌∷◌, ◌++◌, length, Option, None, Some, Result, Ok, Err, refl, sym, ap, subst, ◌∙◌, arith}
use Rattle.std.specs.Prelude.{All, nat_le, if◌then◌else◌}
use Rattle.std.specs.Option.{option_map_or}
use Rattle.std.proofs.lemmas.Bool.Decides.{nat_tests}
use Rattle.std.proofs.lemmas.List.Elements.{All-head, All-tail}
use Rattle.ob_load.specs.declared.fault.FaultyModule.{FaultyModule}
use Rattle.ob_load.specs.declared.fault.ModuleFault.TheVariants as fault
use Rattle.ob_module.specs.Meaning.{depends_of}
use Rattle.ob_module.specs.Modules.{Module, has_module}
use Rattle.ob_load.specs.Reading.{ReadsTo, all_read, fails, module_from, next_module, passes, reads, whole}
use Rattle.ob_load.specs.Rooms.{Passes, taken_before}

-- below the limit it doesn't matter how many were read
pub next-below : (count : ℕ) (name : List ℕ) (text : Option (List ℕ)) → count < 64 → next_module count name text ≡ next_module 0 name text
next-below count name text low =
    let off : nat_le 64 count ≡ false = grind (arith, nat_tests) in
    ap (λ (b : Bool). if b then Err (whole name fault.Limit) else option_map_or (module_from name) text (Err (whole name fault.Absent))) off

pub next-past : (count : ℕ) (name : List ℕ) (text : Option (List ℕ)) → count ≡ 64 → next_module count name text ≡ Err (whole name fault.Limit)
next-past count name text full = rw full refl

module _ (text : List ℕ → Option (List ℕ)) where
  -- names that were read already are passed over
  over : (modules : List Module) (passed names : List (List ℕ)) (outcome : Result (List Module) FaultyModule) → All (λ name. has_module modules name ≡ true) passed → ReadsTo text modules names outcome
      → ReadsTo text modules (passed ++ names) outcome
  over modules [] names outcome all rest = rest
  over modules (name ∷ passed) names outcome all rest =
      passes modules name (passed ++ names) outcome (All-head (λ n. has_module modules n ≡ true) name passed all) (over modules passed names outcome (All-tail (λ n. has_module modules n ≡ true) name passed all) rest)

  module _ (modules : List Module) (coming rest : List (List ℕ)) (next : Option (List ℕ)) (passed : Passes modules coming next rest) where
    -- behind them the same comes
    pub ReadsTo-passed : (outcome : Result (List Module) FaultyModule) → ReadsTo text modules (taken_before next rest) outcome → ReadsTo text modules coming outcome
    ReadsTo-passed outcome further = subst (λ (names : List (List ℕ)). ReadsTo text modules names outcome) (sym passed.2) (over modules passed.0 (taken_before next rest) outcome passed.1 further)

    -- all is read
    pub ReadsTo-ended : next ≡ None → ReadsTo text modules coming (Ok modules)
    ReadsTo-ended none =
        let left : taken_before next rest ≡ [] = ap (λ (o : Option (List ℕ)). taken_before o rest) none ∙ passed.3 none in
        ReadsTo-passed (Ok modules) (subst (λ (names : List (List ℕ)). ReadsTo text modules names (Ok modules)) (sym left) (all_read modules))

    module _ (name : List ℕ) (is : next ≡ Some name) (unread : has_module modules name ≡ false) where
      left : taken_before next rest ≡ name ∷ rest
      left = ap (λ (o : Option (List ℕ)). taken_before o rest) is

      -- one module more is read
      pub ReadsTo-read : (m : Module) → length modules < 64 → next_module 0 name (text name) ≡ Ok m → (outcome : Result (List Module) FaultyModule)
          → ReadsTo text (modules ++ m ∷ []) (depends_of m.document ++ rest) outcome → ReadsTo text modules coming outcome
      ReadsTo-read m low read outcome further =
          ReadsTo-passed outcome (subst (λ (names : List (List ℕ)). ReadsTo text modules names outcome) (sym left)
          (reads modules name rest m outcome unread (next-below (length modules) name (text name) low ∙ read) further))

      -- the next one is refused
      pub ReadsTo-fails : (why : FaultyModule) → next_module (length modules) name (text name) ≡ Err why → ReadsTo text modules coming (Err why)
      ReadsTo-fails why refused =
          ReadsTo-passed (Err why) (subst (λ (names : List (List ℕ)). ReadsTo text modules names (Err why)) (sym left) (fails modules name rest why unread refused))
