-- Fields and checks that an entry adds in turn, and what is found of them.
use Rattle.std.proofs.Common.{◌≡◌, ◌⊎◌, inl, inr, ℕ, Bool, true, false, cond, ◌||◌, List, [], ◌∷◌, ◌++◌, Option, refl, sym, ap, ◌∙◌}
use Rattle.std.specs.Bool.{then_some}
use Rattle.ob_definition.specs.declared.definition.Check.{Check}
use Rattle.ob_definition.specs.declared.definition.FieldDef.{FieldDef}
use Rattle.ob_definition.specs.declared.fault.SchemaFault.{SchemaFault}
use Rattle.ob_definition.specs.declared.fault.SchemaFault.TheVariants as fault
use Rattle.ob_definition.specs.declared.wrong.Wrong.TheVariants as wrong
use Rattle.ob_definition.specs.Definitions.{is_automatic}
use Rattle.ob_definition.specs.EntryFaults.{IsCheckTwice, IsFieldTwice}
use Rattle.ob_definition.specs.Findings.{Adds, IsAt}
use Rattle.ob_definition.specs.Gathered.{Declared, DeclaredCheck, check_at, field_at, is_check, is_declared, is_taken, with_check, with_checks, with_field, with_fields}
use Rattle.ob_definition.specs.Members.{check_name}
use Rattle.ob_definition.specs.Rooms.{IsCheckTwiceFault, IsFieldTwiceFault, spot_at}
use Rattle.ob_definition.proofs.Adding.{Adds-both, Adds-none, Adds-same}
use Rattle.ob_definition.proofs.Rooms.{Adds-when, IsTold}

pub with_fields-push : (n : ℕ) (fields : List Declared) (fs : List FieldDef) (f : FieldDef) → with_fields n fields (fs ++ f ∷ []) ≡ with_field n (with_fields n fields fs) f
with_fields-push n fields [] f = refl
with_fields-push n fields (g ∷ fs) f = with_fields-push n (with_field n fields g) fs f

pub with_checks-push : (n : ℕ) (checks : List DeclaredCheck) (cs : List Check) (c : Check) → with_checks n checks (cs ++ c ∷ []) ≡ with_check n (with_checks n checks cs) c
with_checks-push n checks [] c = refl
with_checks-push n checks (d ∷ cs) c = with_checks-push n (with_check n checks d) cs c

-- the name of one field more is taken
abbrev pub FieldTakes : ℕ → List Declared → List FieldDef → FieldDef → List ℕ → Type 0
FieldTakes n fields fs f name = (f.name ≡ name) × (is_taken (with_fields n fields fs) name ≡ true)

pub IsFieldTwice-push : (n : ℕ) (fields : List Declared) (fs : List FieldDef) (f : FieldDef) (name : List ℕ)
    → IsFieldTwice n fields (fs ++ f ∷ []) name → IsFieldTwice n fields fs name ⊎ FieldTakes n fields fs f name
IsFieldTwice-push n fields [] f name twice = elim twice [ inl now ↦ inr now | inr later ↦ absurd later ]
IsFieldTwice-push n fields (g ∷ fs) f name twice =
    elim twice [
      | inl now ↦ inl (inl now)
      | inr later ↦ elim (IsFieldTwice-push n (with_field n fields g) fs f name later) [ inl before ↦ inl (inr before) | inr last ↦ inr last ]
    ]

pub IsFieldTwice-before : (n : ℕ) (fields : List Declared) (fs : List FieldDef) (f : FieldDef) (name : List ℕ)
    → IsFieldTwice n fields fs name ⊎ FieldTakes n fields fs f name → IsFieldTwice n fields (fs ++ f ∷ []) name
IsFieldTwice-before n fields [] f name twice = elim twice [ inl before ↦ absurd before | inr last ↦ inl last ]
IsFieldTwice-before n fields (g ∷ fs) f name twice =
    elim twice [
      | inl before ↦ elim before [ inl now ↦ inl now | inr later ↦ inr (IsFieldTwice-before n (with_field n fields g) fs f name (inl later)) ]
      | inr last ↦ inr (IsFieldTwice-before n (with_field n fields g) fs f name (inr last))
    ]

abbrev pub CheckTakes : ℕ → List DeclaredCheck → List Check → Check → List ℕ → Type 0
CheckTakes n checks cs c name = (c.name ≡ name) × (is_check (with_checks n checks cs) name ≡ true)

pub IsCheckTwice-push : (n : ℕ) (checks : List DeclaredCheck) (cs : List Check) (c : Check) (name : List ℕ)
    → IsCheckTwice n checks (cs ++ c ∷ []) name → IsCheckTwice n checks cs name ⊎ CheckTakes n checks cs c name
IsCheckTwice-push n checks [] c name twice = elim twice [ inl now ↦ inr now | inr later ↦ absurd later ]
IsCheckTwice-push n checks (d ∷ cs) c name twice =
    elim twice [
      | inl now ↦ inl (inl now)
      | inr later ↦ elim (IsCheckTwice-push n (with_check n checks d) cs c name later) [ inl before ↦ inl (inr before) | inr last ↦ inr last ]
    ]

pub IsCheckTwice-before : (n : ℕ) (checks : List DeclaredCheck) (cs : List Check) (c : Check) (name : List ℕ)
    → IsCheckTwice n checks cs name ⊎ CheckTakes n checks cs c name → IsCheckTwice n checks (cs ++ c ∷ []) name
IsCheckTwice-before n checks [] c name twice = elim twice [ inl before ↦ absurd before | inr last ↦ inl last ]
IsCheckTwice-before n checks (d ∷ cs) c name twice =
    elim twice [
      | inl before ↦ elim before [ inl now ↦ inl now | inr later ↦ inr (IsCheckTwice-before n (with_check n checks d) cs c name (inl later)) ]
      | inr last ↦ inr (IsCheckTwice-before n (with_check n checks d) cs c name (inr last))
    ]

-- one field more
pub with_field-kept : (n : ℕ) (fields : List Declared) (f : FieldDef) → is_taken fields f.name ≡ true → with_field n fields f ≡ fields
with_field-kept n fields f is = ap (λ (b : Bool). cond b fields (fields ++ field_at n f ∷ [])) is

pub with_field-new : (n : ℕ) (fields : List Declared) (f : FieldDef) → is_taken fields f.name ≡ false → with_field n fields f ≡ fields ++ field_at n f ∷ []
with_field-new n fields f is = ap (λ (b : Bool). cond b fields (fields ++ field_at n f ∷ [])) is

pub with_check-kept : (n : ℕ) (checks : List DeclaredCheck) (c : Check) → is_check checks c.name ≡ true → with_check n checks c ≡ checks
with_check-kept n checks c is = ap (λ (b : Bool). cond b checks (checks ++ check_at n c ∷ [])) is

pub with_check-new : (n : ℕ) (checks : List DeclaredCheck) (c : Check) → is_check checks c.name ≡ false → with_check n checks c ≡ checks ++ check_at n c ∷ []
with_check-new n checks c is = ap (λ (b : Bool). cond b checks (checks ++ check_at n c ∷ [])) is

-- what is found of one field more
pub add_field-found : (n : ℕ) (fields : List Declared) (fs : List FieldDef) (f : FieldDef) (taken : Bool) (a b c : Option SchemaFault) → taken ≡ is_taken (with_fields n fields fs) f.name
    → Adds (IsFieldTwiceFault n fields fs) a b → Adds (IsAt (then_some taken wrong.Twice) (spot_at n f.name)) b c → Adds (IsFieldTwiceFault n fields (fs ++ f ∷ [])) a c
add_field-found n fields fs f taken a b c is before now =
    Adds-same (λ why. IsFieldTwiceFault n fields fs why ⊎ IsTold taken (fault.Twice (spot_at n f.name)) why) (IsFieldTwiceFault n fields (fs ++ f ∷ [])) a c to from
    (Adds-both (IsFieldTwiceFault n fields fs) (IsTold taken (fault.Twice (spot_at n f.name))) a b c before (Adds-when taken wrong.Twice (spot_at n f.name) b c now))
  where
    to : (why : SchemaFault) → IsFieldTwiceFault n fields fs why ⊎ IsTold taken (fault.Twice (spot_at n f.name)) why → IsFieldTwiceFault n fields (fs ++ f ∷ []) why
    to why (inl w) = (w.0, IsFieldTwice-before n fields fs f w.0 (inl w.1), w.2)
    to why (inr w) = (f.name, IsFieldTwice-before n fields fs f f.name (inr (refl, sym is ∙ w.0)), w.1)

    taken_by : (name : List ℕ) → f.name ≡ name → is_taken (with_fields n fields fs) name ≡ true → taken ≡ true
    taken_by name same found = is ∙ ap (is_taken (with_fields n fields fs)) same ∙ found

    from : (why : SchemaFault) → IsFieldTwiceFault n fields (fs ++ f ∷ []) why → IsFieldTwiceFault n fields fs why ⊎ IsTold taken (fault.Twice (spot_at n f.name)) why
    from why w =
        elim (IsFieldTwice-push n fields fs f w.0 w.1) as (λ _. IsFieldTwiceFault n fields fs why ⊎ IsTold taken (fault.Twice (spot_at n f.name)) why) [
          | inl earlier ↦ inl (w.0, earlier, w.2)
          | inr last ↦ inr (taken_by w.0 last.0 last.1, w.2 ∙ ap (λ (name : List ℕ). fault.Twice (spot_at n name)) (sym last.0))
        ]

-- and of one check
pub add_check-found : (n : ℕ) (checks : List DeclaredCheck) (cs : List Check) (k : Check) (taken : Bool) (a b c : Option SchemaFault) → taken ≡ is_check (with_checks n checks cs) k.name
    → Adds (IsCheckTwiceFault n checks cs) a b → Adds (IsAt (then_some taken wrong.Twice) (spot_at n (check_name k.name))) b c → Adds (IsCheckTwiceFault n checks (cs ++ k ∷ [])) a c
add_check-found n checks cs k taken a b c is before now =
    Adds-same (λ why. IsCheckTwiceFault n checks cs why ⊎ IsTold taken (fault.Twice (spot_at n (check_name k.name))) why) (IsCheckTwiceFault n checks (cs ++ k ∷ [])) a c to from
    (Adds-both (IsCheckTwiceFault n checks cs) (IsTold taken (fault.Twice (spot_at n (check_name k.name)))) a b c before (Adds-when taken wrong.Twice (spot_at n (check_name k.name)) b c now))
  where
    to : (why : SchemaFault) → IsCheckTwiceFault n checks cs why ⊎ IsTold taken (fault.Twice (spot_at n (check_name k.name))) why → IsCheckTwiceFault n checks (cs ++ k ∷ []) why
    to why (inl w) = (w.0, IsCheckTwice-before n checks cs k w.0 (inl w.1), w.2)
    to why (inr w) = (k.name, IsCheckTwice-before n checks cs k k.name (inr (refl, sym is ∙ w.0)), w.1)

    taken_by : (name : List ℕ) → k.name ≡ name → is_check (with_checks n checks cs) name ≡ true → taken ≡ true
    taken_by name same found = is ∙ ap (is_check (with_checks n checks cs)) same ∙ found

    from : (why : SchemaFault) → IsCheckTwiceFault n checks (cs ++ k ∷ []) why → IsCheckTwiceFault n checks cs why ⊎ IsTold taken (fault.Twice (spot_at n (check_name k.name))) why
    from why w =
        elim (IsCheckTwice-push n checks cs k w.0 w.1) as (λ _. IsCheckTwiceFault n checks cs why ⊎ IsTold taken (fault.Twice (spot_at n (check_name k.name))) why) [
          | inl earlier ↦ inl (w.0, earlier, w.2)
          | inr last ↦ inr (taken_by w.0 last.0 last.1, w.2 ∙ ap (λ (name : List ℕ). fault.Twice (spot_at n (check_name name))) (sym last.0))
        ]

-- whether a name is taken, by the two tests in turn
pub taken_by-automatic : (fields : List Declared) (name : List ℕ) (t : Bool) → is_automatic name ≡ true → t ≡ true → t ≡ is_taken fields name
taken_by-automatic fields name t automatic e = e ∙ sym (ap (λ (b : Bool). b || is_declared fields name) automatic)

pub taken_by-declared : (fields : List Declared) (name : List ℕ) (t : Bool) → is_automatic name ≡ false → t ≡ is_declared fields name → t ≡ is_taken fields name
taken_by-declared fields name t automatic e = e ∙ sym (ap (λ (b : Bool). b || is_declared fields name) automatic)

-- the fields with one more, by the test of its name
pub with_fields-new : (n : ℕ) (fields old new : List Declared) (fs : List FieldDef) (f : FieldDef) → old ≡ with_fields n fields fs → is_taken (with_fields n fields fs) f.name ≡ false → new ≡ old ++ field_at n f ∷ []
    → new ≡ with_fields n fields (fs ++ f ∷ [])
with_fields-new n fields old new fs f is free grown =
    grown ∙ ap (λ (l : List Declared). l ++ field_at n f ∷ []) is ∙ sym (with_field-new n (with_fields n fields fs) f free) ∙ sym (with_fields-push n fields fs f)

pub with_fields-kept : (n : ℕ) (fields old new : List Declared) (fs : List FieldDef) (f : FieldDef) → old ≡ with_fields n fields fs → is_taken (with_fields n fields fs) f.name ≡ true → new ≡ old → new ≡ with_fields n fields (fs ++ f ∷ [])
with_fields-kept n fields old new fs f is taken same = same ∙ is ∙ sym (with_field-kept n (with_fields n fields fs) f taken) ∙ sym (with_fields-push n fields fs f)

pub with_checks-new : (n : ℕ) (checks old new : List DeclaredCheck) (ks : List Check) (k : Check) → old ≡ with_checks n checks ks → is_check (with_checks n checks ks) k.name ≡ false → new ≡ old ++ check_at n k ∷ []
    → new ≡ with_checks n checks (ks ++ k ∷ [])
with_checks-new n checks old new ks k is free grown =
    grown ∙ ap (λ (l : List DeclaredCheck). l ++ check_at n k ∷ []) is ∙ sym (with_check-new n (with_checks n checks ks) k free) ∙ sym (with_checks-push n checks ks k)

pub with_checks-kept : (n : ℕ) (checks old new : List DeclaredCheck) (ks : List Check) (k : Check) → old ≡ with_checks n checks ks → is_check (with_checks n checks ks) k.name ≡ true → new ≡ old
    → new ≡ with_checks n checks (ks ++ k ∷ [])
with_checks-kept n checks old new ks k is taken same = same ∙ is ∙ sym (with_check-kept n (with_checks n checks ks) k taken) ∙ sym (with_checks-push n checks ks k)

-- nothing is found of none
pub no_fields-found : (n : ℕ) (fields : List Declared) (a : Option SchemaFault) → Adds (IsFieldTwiceFault n fields []) a a
no_fields-found n fields a = Adds-none (IsFieldTwiceFault n fields []) a (λ why w. w.1)

pub no_checks-found : (n : ℕ) (checks : List DeclaredCheck) (a : Option SchemaFault) → Adds (IsCheckTwiceFault n checks []) a a
no_checks-found n checks a = Adds-none (IsCheckTwiceFault n checks []) a (λ why w. w.1)
