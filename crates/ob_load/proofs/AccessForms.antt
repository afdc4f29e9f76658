-- What is wrong in an entry, as it is told of its module.
use Rattle.std.proofs.Common.{◌≡◌, ℕ, List, [], ◌∷◌, Option, None, Some, Ok, Err, sym, ap, ◌∙◌}
use Rattle.std.specs.Prelude.{Bool, true, false, Result, codes}
use Rattle.ob_base.specs.declared.place.PathStep.{PathStep}
use Rattle.ob_base.specs.declared.place.PathStep.TheVariants.{Key, Item}
use Rattle.ob_definition.specs.Definitions.{first_of}
use Rattle.ob_domain.specs.Trees.{Tree}
use Rattle.ob_domain.specs.declared.fault.DomainFault.{DomainFault}
use Rattle.ob_load.specs.AccessFaults.{domain_fault, form_fault, in_entry}
use Rattle.ob_module.specs.Forms.{under, unless}
use Rattle.ob_load.specs.Rooms.{Refuses}
use Rattle.ob_load.specs.declared.fault.FaultyModule.{FaultyModule}
use Rattle.ob_load.specs.declared.fault.LoadFault.{LoadFault}
use Rattle.ob_load.specs.declared.fault.LoadFault.TheVariants as load
use Rattle.ob_load.specs.declared.fault.ModuleFault.TheVariants as fault
use Rattle.ob_load.proofs.Told.{refused-is}

module _ (owner table : List ℕ) (n : ℕ) where
  -- what is refused at a place of an entry is its fault
  pub entry-told : (wrong : Option (List PathStep)) (path : List PathStep) (why : LoadFault) (faulty : FaultyModule)
      → wrong ≡ Some path → Refuses (record { name = owner; place = Key table ∷ (Item n ∷ path); fault = fault.Form }) why → why ≡ load.Module faulty
      → form_fault owner (in_entry table n wrong) ≡ Some faulty
  entry-told wrong path why faulty is refuses told =
      ap (λ o. form_fault owner (in_entry table n o)) is
      ∙ ap (λ (f : FaultyModule). Some f) (sym (refused-is (record { name = owner; place = Key table ∷ (Item n ∷ path); fault = fault.Form }) faulty why refuses told))

  -- the first of two things that are wrong in it
  pub entry-first : (a b : Option (List PathStep)) (faulty : FaultyModule) → form_fault owner (in_entry table n a) ≡ Some faulty → form_fault owner (in_entry table n (first_of a b)) ≡ Some faulty
  entry-first None b faulty is = absurd (let e : ◌≡◌ {A = Option FaultyModule} None (Some faulty) = is in cc)
  entry-first (Some path) b faulty is = is

  pub entry-second : (a b : Option (List PathStep)) (faulty : FaultyModule) → a ≡ None → form_fault owner (in_entry table n b) ≡ Some faulty → form_fault owner (in_entry table n (first_of a b)) ≡ Some faulty
  entry-second a b faulty none is = ap (λ o. form_fault owner (in_entry table n (first_of o b))) none ∙ is

  pub entry-none : (a : Option (List PathStep)) → a ≡ None → form_fault owner (in_entry table n a) ≡ None
  entry-none a none = ap (λ o. form_fault owner (in_entry table n o)) none

-- a key whose value doesn't fit, and one whose value does
pub unless-false : (key : List ℕ) (fits : Bool) → fits ≡ false → under (Key key) (unless fits) ≡ Some (Key key ∷ [])
unless-false key fits is = ap (λ b. under (Key key) (unless b)) is

pub unless-true : (key : List ℕ) (fits : Bool) → fits ≡ true → under (Key key) (unless fits) ≡ None
unless-true key fits is = ap (λ b. under (Key key) (unless b)) is

-- the fault of a domain that is refused
pub domain-told : (owner table : List ℕ) (n : ℕ) (read : Result Tree DomainFault) (why : DomainFault) (refusal : LoadFault) (faulty : FaultyModule)
    → read ≡ Err why → table ≡ codes "rule" → Refuses (record { name = owner; place = Key table ∷ (Item n ∷ []); fault = fault.Domain why }) refusal → refusal ≡ load.Module faulty
    → domain_fault owner n read ≡ Some faulty
domain-told owner table n read why refusal faulty is named refuses told =
    let own = refused-is (record { name = owner; place = Key table ∷ (Item n ∷ []); fault = fault.Domain why }) faulty refusal refuses told in
    ap (domain_fault owner n) is ∙ ap (λ (key : List ℕ). let f : FaultyModule = record { name = owner; place = Key key ∷ (Item n ∷ []); fault = fault.Domain why } in Some f) (sym named)
    ∙ ap (λ (f : FaultyModule). Some f) (sym own)

pub domain-none : (owner : List ℕ) (n : ℕ) (read : Result Tree DomainFault) (tree : Tree) → read ≡ Ok tree → domain_fault owner n read ≡ None
domain-none owner n read tree is = ap (domain_fault owner n) is
