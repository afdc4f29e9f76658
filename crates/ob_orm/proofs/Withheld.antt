-- Which rights a write lacks, row by row and field by field.
use Rattle.std.proofs.Common.{◌≡◌, Bool, true, false, not, cond, List, [], ◌∷◌, map, Some, None, Err, refl, sym, ap, subst, ◌∙◌, arith}
use Rattle.std.specs.Prelude.{All, Contains, find}
use Rattle.std.proofs.lemmas.List.Elements.{All-contains, All-cons, All-head, All-map, All-tail, All-weaker, Contains-append_right}
use Rattle.ob_access.specs.Policies.{PolicyData}
use Rattle.ob_access.specs.Rights.{field_right, right}
use Rattle.ob_base.specs.declared.id.FieldNo.{FieldNo}
use Rattle.ob_base.specs.declared.id.ModelNo.{ModelNo}
use Rattle.ob_base.specs.declared.id.RecId.{RecId}
use Rattle.ob_base.specs.declared.id.RowKey.{RowKey}
use Rattle.ob_base.specs.declared.place.PathStep.{PathStep}
use Rattle.ob_base.specs.declared.refusal.Op.{Op}
use Rattle.ob_base.specs.declared.refusal.Op.TheVariants as op
use Rattle.ob_base.specs.declared.refusal.Refusal.{Refusal}
use Rattle.ob_base.specs.declared.refusal.Refusal.TheVariants as refusal
use Rattle.ob_call.specs.Places.{IsMalformedAt}
use Rattle.ob_orm.specs.GivenValues.{GivenObject}
use Rattle.ob_rows.specs.Rights.{Asking, first_unwritable, first_withheld, may}
use Rattle.ob_orm.specs.Writable.{unwritable, withheld}
use Rattle.ob_orm.specs.WriteSteps.{TestsWritable}

-- what a test finds of those behind one, or that itself
found-first : {X : Type 0} (test : X → Bool) (y : X) (ys : List X) (x : X) (b : Bool) → test y ≡ b → cond b (Some y) (find test ys) ≡ Some x → (find test ys ≡ Some x → Contains ys x × (test x ≡ true))
    → Contains (y ∷ ys) x × (test x ≡ true)
found-first test y ys x true is found later = let own : y ≡ x = cc in ((0, omega arith, own), ap test (sym own) ∙ is)
found-first test y ys x false is found later = let (within, passes) = later found in (Contains-append_right (y ∷ []) ys x within, passes)

-- the first that a test finds is one of them, and passes
pub found-one : {X : Type 0} (test : X → Bool) (xs : List X) (x : X) → find test xs ≡ Some x → Contains xs x × (test x ≡ true)
found-one test [] x found = absurd cc
found-one test (y ∷ ys) x found = found-first test y ys x (test y) refl found (found-one test ys x)

-- none passes of those that don't
pub found-none : {X : Type 0} (test : X → Bool) (xs : List X) → All (λ x. test x ≡ false) xs → find test xs ≡ None
found-none test [] fail = refl
found-none test (x ∷ xs) fail = ap (λ (b : Bool). cond b (Some x) (find test xs)) (All-head (λ y. test y ≡ false) x xs fail) ∙ found-none test xs (All-tail (λ y. test y ≡ false) x xs fail)

not-not : (b : Bool) → not b ≡ true → b ≡ false
not-not true is = absurd cc
not-not false is = refl

module _ (policy : PolicyData) (own : List RecId) (user : RecId) (model : ModelNo) where
  -- what is asked for on a row
  abbrev pub asking_of : RowKey → Asking
  asking_of row = (op.Write, row.model)

  -- else it is one of the rows'
  pub withheld-row : (rows : List RowKey) → may policy own user (op.Write, model) ≡ true → first_withheld policy own user (map asking_of rows) ≡ withheld policy own user model rows
  withheld-row rows has = sym (ap (λ (b : Bool). cond (not b) (Some (op.Write, model)) (first_withheld policy own user (map asking_of rows))) has)

  -- he may write rows of each model of which there are any
  pub withheld-none : (rows : List RowKey) (ms : List ModelNo) → All (λ row. Contains (model ∷ ms) row.model) rows → may policy own user (op.Write, model) ≡ true → All (λ m. may policy own user (op.Write, m) ≡ true) ms
      → None ≡ withheld policy own user model rows
  withheld-none rows ms of has all =
      let each : All (λ m. may policy own user (op.Write, m) ≡ true) (model ∷ ms) = All-cons (λ m. may policy own user (op.Write, m) ≡ true) model ms has all in
      let passing : All (λ (row : RowKey). not (may policy own user (asking_of row)) ≡ false) rows =
      All-weaker (λ (row : RowKey). Contains (model ∷ ms) row.model) (λ row. not (may policy own user (asking_of row)) ≡ false)
      (λ row within. ap not (All-contains (λ (m : ModelNo). may policy own user (op.Write, m) ≡ true) (model ∷ ms) row.model each within)) rows of in
      sym (found-none (λ (asking : Asking). not (may policy own user asking)) (map asking_of rows) (All-map (λ (asking : Asking). not (may policy own user asking) ≡ false) asking_of rows passing)) ∙ withheld-row rows has

  -- one that he lacks is to write rows of one of the models
  pub withheld-cause : (rows : List RowKey) (ms : List ModelNo) (operation : Op) (m : ModelNo) → All (λ row. Contains (model ∷ ms) row.model) rows → withheld policy own user model rows ≡ Some (operation, m)
      → (operation ≡ op.Write) × Contains (model ∷ ms) m × (right policy own user m op.Write ≡ false)
  withheld-cause rows ms operation m of lacks =
      let (within, fails) = found-one (λ (asking : Asking). not (may policy own user asking)) ((op.Write, model) ∷ map asking_of rows) (operation, m) lacks in
      let each : All (λ (asking : Asking). (asking.0 ≡ op.Write) × Contains (model ∷ ms) asking.1) ((op.Write, model) ∷ map asking_of rows) =
      All-cons (λ (asking : Asking). (asking.0 ≡ op.Write) × Contains (model ∷ ms) asking.1) (op.Write, model) (map asking_of rows) (refl, (0, omega arith, refl))
      (All-map (λ (asking : Asking). (asking.0 ≡ op.Write) × Contains (model ∷ ms) asking.1) asking_of rows (All-weaker (λ (row : RowKey). Contains (model ∷ ms) row.model) (λ row. (op.Write ≡ op.Write) × Contains (model ∷ ms) row.model) (λ row is. (refl, is)) rows of)) in
      let (writes, among) = All-contains (λ (asking : Asking). (asking.0 ≡ op.Write) × Contains (model ∷ ms) asking.1) ((op.Write, model) ∷ map asking_of rows) (operation, m) each within in
      (writes, among, subst (λ (o : Op). right policy own user m o ≡ false) writes (not-not (right policy own user m operation) fails))

  -- a field that he may not give is one of them
  pub unwritable-cause : (fields : List FieldNo) (field : FieldNo) → first_unwritable policy own user model fields ≡ Some field → Contains fields field × (field_right policy own user model field true ≡ false)
  unwritable-cause fields field lacks =
      let (within, fails) = found-one (λ (f : FieldNo). not (field_right policy own user model f true)) fields field lacks in (within, not-not (field_right policy own user model field true) fails)

-- a value that hasn't its form is told where all rights are there
pub wrong-tests : (policy : PolicyData) (own : List RecId) (user : RecId) (model : ModelNo) (rows : List RowKey) (object : GivenObject) (place : List PathStep) (why : Refusal) → withheld policy own user model rows ≡ None
    → unwritable policy own user model object ≡ None → object.wrong ≡ Some place → IsMalformedAt place why → TestsWritable policy own user model rows object (Err why)
wrong-tests policy own user model rows object place (refusal.Request told) rights fields wrong at = (rights, fields, wrong ∙ ap (λ (p : List PathStep). Some p) (sym at))
wrong-tests policy own user model rows object place refusal.NoMemory rights fields wrong at = tt
wrong-tests policy own user model rows object place _ rights fields wrong at = absurd at
