-- The links of a model so far, the names that they take and what is found of them, with one link more.
use Rattle.std.proofs.Common.{◌≡◌, ◌⊎◌, inl, inr, ℕ, ◌||◌, ◌&&◌, not, Bool, true, false, cond, List, [], ◌∷◌, ◌++◌, map, Option, Some, None, is_none, is_some, refl, sym, ap, subst, ◌∙◌, arith}
use Rattle.std.specs.BTreeSet.{BTreeSet, contains_text}
use Rattle.std.specs.Bool.{then_some}
use Rattle.std.specs.Option.{option_map_or}
use Rattle.std.specs.Prelude.{slice_get}
use Rattle.std.specs.Str.{bytes_eq}
use Rattle.std.specs.declared.alloc.Global.{Global}
use Rattle.std.specs.declared.string.String.{String}
use Rattle.ob_definition.specs.declared.definition.FieldDef.{FieldDef}
use Rattle.ob_definition.specs.declared.definition.Inherits.{Inherits}
use Rattle.ob_definition.specs.declared.fault.SchemaFault.{SchemaFault}
use Rattle.ob_definition.specs.declared.fault.SchemaFault.TheVariants as fault
use Rattle.ob_definition.specs.declared.fault.Spot.{Spot}
use Rattle.ob_definition.specs.declared.made.ParentLink.{ParentLink}
use Rattle.ob_definition.specs.declared.wrong.Wrong.{Wrong}
use Rattle.ob_definition.specs.declared.wrong.Wrong.TheVariants as wrong
use Rattle.ob_definition.specs.Definitions.{is_one_of}
use Rattle.ob_definition.specs.Findings.{Adds, IsAt, fault_at}
use Rattle.ob_definition.specs.Gathered.{Gathered, model_of}
use Rattle.ob_definition.specs.Making.{AreLinkFaults, AreLinks, with_links, wrong_parent}
use Rattle.ob_definition.specs.Members.{is_link, link_def, links_from, may_inherit}
use Rattle.ob_definition.specs.Rooms.{spot_at}
use Rattle.ob_definition.proofs.Adding.{Adds-both, Adds-none, Adds-same}
use Rattle.ob_definition.proofs.ByName.{map-push}
use Rattle.ob_definition.proofs.Links.{IsLinkTaken-before, IsLinkTaken-push, links_from-push, with_links-push}
use Rattle.ob_definition.proofs.OwnNames.{bytes_eq-sym}
use Rattle.ob_definition.proofs.Rooms.{Adds-when, IsTold}
use Rattle.ob_definition.proofs.Tellings.{Any-before, Any-last, Any-pushed}

pub append-none : {X : Type 0} (xs : List X) → xs ++ [] ≡ xs
append-none [] = refl
append-none (x ∷ xs) = ap (λ (l : List _). x ∷ l) (append-none xs)

-- the names that are taken, among the given ones and in the set
abbrev pub AreTaken : List (List ℕ) → List (List ℕ) → BTreeSet (String Global) → Type 0
AreTaken taken all names = (name : List ℕ) → is_one_of all name ≡ (is_one_of taken name || contains_text names name)

-- tests in turn
pub or_first : (own there t all : Bool) → all ≡ (own || there) → own ≡ true → t ≡ own → t ≡ all
or_first true there t all e o is = is ∙ sym e
or_first false there t all e o is = absurd (let s : ◌≡◌ {A = Bool} false true = o in cc)

pub or_second : (own there t all : Bool) → all ≡ (own || there) → own ≡ false → t ≡ there → t ≡ all
or_second true there t all e o is = absurd (let s : ◌≡◌ {A = Bool} true false = o in cc)
or_second false there t all e o is = is ∙ sym e

pub and_first : (p t both : Bool) → p ≡ true → both ≡ t → both ≡ (p && t)
and_first true t both o is = is
and_first false t both o is = absurd (let s : ◌≡◌ {A = Bool} false true = o in cc)

pub and_none : (p t both : Bool) → p ≡ false → both ≡ p → both ≡ (p && t)
and_none true t both o is = absurd (let s : ◌≡◌ {A = Bool} true false = o in cc)
and_none false t both o is = is

not_same : (a b : Bool) → not a ≡ not b → a ≡ b
not_same true true e = refl
not_same false false e = refl
not_same true false e = absurd (let s : ◌≡◌ {A = Bool} false true = e in cc)
not_same false true e = absurd (let s : ◌≡◌ {A = Bool} true false = e in cc)

and_false : (a : Bool) → (a && false) ≡ false
and_false true = refl
and_false false = refl

-- whether a link may be one, by the two tests
pub link_test : (may all p t : Bool) → p ≡ may → t ≡ all → p ≡ true → t ≡ false → (may && not all) ≡ true
link_test may all p t e f is free = ap (λ (b : Bool). b && not all) (sym e ∙ is) ∙ ap (λ (b : Bool). not b) (sym f ∙ free)

pub taken_test : (may all t : Bool) → t ≡ all → t ≡ true → (may && not all) ≡ false
taken_test may all t f is = ap (λ (b : Bool). may && not b) (sym f ∙ is) ∙ and_false may

pub other_test : (may all p : Bool) → p ≡ may → p ≡ false → (may && not all) ≡ false
other_test may all p e is = ap (λ (b : Bool). b && not all) (sym e ∙ is)

module _ (models : List Gathered) (g : Gathered) where
  abbrev NoModel : Inherits → Type 0
  NoModel i = model_of models i.model ≡ None

  abbrev NotParent : Inherits → Type 0
  NotParent i = (is_some (model_of models i.model) ≡ true) × (may_inherit models g i ≡ false)

  abbrev spot : Spot
  spot = spot_at g.entry []

  -- what is told of one link more
  abbrev LinkTold : List (List ℕ) → Inherits → Bool → SchemaFault → Type 0
  LinkTold taken i twice why = IsAt (wrong_parent models g i) spot why ⊎ IsTold twice (fault.Twice spot) why

  wrong_to : (i : Inherits) (why : SchemaFault) → IsAt (wrong_parent models g i) spot why → (NoModel i × (why ≡ fault.Model spot)) ⊎ (NotParent i × (why ≡ fault.Inherits spot))
  wrong_to i why at = by (may_inherit models g i) (is_some (model_of models i.model)) (model_of models i.model) refl refl refl at
    where
      by : (may there : Bool) (o : Option Gathered) → may_inherit models g i ≡ may → is_some (model_of models i.model) ≡ there → model_of models i.model ≡ o
          → IsAt (cond may None (Some (cond there wrong.Inherits wrong.Model))) spot why → (NoModel i × (why ≡ fault.Model spot)) ⊎ (NotParent i × (why ≡ fault.Inherits spot))
      by true there o e f m at = absurd at
      by false true o e f m at = inr ((f, e), at)
      by false false None e f m at = inl (m, at)
      by false false (Some p) e f m at = absurd (let s : ◌≡◌ {A = Bool} true false = sym (ap (λ (o : Option Gathered). is_some o) m) ∙ f in cc)

  -- what a model of the parent's name says of the link
  abbrev may_by : Option Gathered → Bool
  may_by o = option_map_or (λ p. not (bytes_eq p.name g.name) && is_none (slice_get p.inherits 0)) o false

  no_model : (i : Inherits) (why : SchemaFault) → NoModel i → why ≡ fault.Model spot → IsAt (wrong_parent models g i) spot why
  no_model i why none e = subst (λ (o : Option Gathered). IsAt (cond (may_by o) None (Some (cond (is_some o) wrong.Inherits wrong.Model))) spot why) (sym none) e

  no_parent : (i : Inherits) (why : SchemaFault) → NotParent i → why ≡ fault.Inherits spot → IsAt (wrong_parent models g i) spot why
  no_parent i why (there, may) e =
      subst (λ (b : Bool). IsAt (cond b None (Some (cond (is_some (model_of models i.model)) wrong.Inherits wrong.Model))) spot why) (sym may)
      (subst (λ (b : Bool). why ≡ fault_at (cond b wrong.Inherits wrong.Model) spot) (sym there) e)

  -- what is found of one link more
  pub link-found : (taken : List (List ℕ)) (links : List Inherits) (i : Inherits) (what : Option Wrong) (twice : Bool) (a b c d : Option SchemaFault) → what ≡ wrong_parent models g i
      → twice ≡ (may_inherit models g i && is_one_of (with_links models g taken links) i.link) → Adds (AreLinkFaults models g taken links) a b → Adds (IsAt what (spot_at g.entry [])) b c
      → Adds (IsAt (then_some twice wrong.Twice) (spot_at g.entry [])) c d → Adds (AreLinkFaults models g taken (links ++ i ∷ [])) a d
  link-found taken links i what twice a b c d is tests before one two =
      Adds-same (λ why. AreLinkFaults models g taken links why ⊎ LinkTold taken i twice why) (AreLinkFaults models g taken (links ++ i ∷ [])) a d to from
      (Adds-both (AreLinkFaults models g taken links) (LinkTold taken i twice) a b d before
      (Adds-both (IsAt (wrong_parent models g i) spot) (IsTold twice (fault.Twice spot)) b c d (subst (λ (o : Option Wrong). Adds (IsAt o spot) b c) is one) (Adds-when twice wrong.Twice spot c d two)))
    where
      to : (why : SchemaFault) → AreLinkFaults models g taken links why ⊎ LinkTold taken i twice why → AreLinkFaults models g taken (links ++ i ∷ []) why
      to why (inl (inl w)) = inl (Any-before NoModel links i w.0, w.1)
      to why (inl (inr (inl w))) = inr (inl (Any-before NotParent links i w.0, w.1))
      to why (inl (inr (inr w))) = inr (inr (IsLinkTaken-before models g taken links i (inl w.0), w.1))
      to why (inr (inl at)) = elim (wrong_to i why at) as (λ _. AreLinkFaults models g taken (links ++ i ∷ []) why) [
        | inl w ↦ inl (Any-last NoModel links i w.0, w.1)
        | inr w ↦ inr (inl (Any-last NotParent links i w.0, w.1))
      ]
      to why (inr (inr w)) = inr (inr (IsLinkTaken-before models g taken links i (inr (sym tests ∙ w.0)), w.1))

      from : (why : SchemaFault) → AreLinkFaults models g taken (links ++ i ∷ []) why → AreLinkFaults models g taken links why ⊎ LinkTold taken i twice why
      from why (inl w) = elim (Any-pushed NoModel links i w.0) as (λ _. AreLinkFaults models g taken links why ⊎ LinkTold taken i twice why) [
        | inl earlier ↦ inl (inl (earlier, w.1))
        | inr last ↦ inr (inl (no_model i why last w.1))
      ]
      from why (inr (inl w)) = elim (Any-pushed NotParent links i w.0) as (λ _. AreLinkFaults models g taken links why ⊎ LinkTold taken i twice why) [
        | inl earlier ↦ inl (inr (inl (earlier, w.1)))
        | inr last ↦ inr (inl (no_parent i why last w.1))
      ]
      from why (inr (inr w)) = elim (IsLinkTaken-push models g taken links i w.0) as (λ _. AreLinkFaults models g taken links why ⊎ LinkTold taken i twice why) [
        | inl earlier ↦ inl (inr (inr (earlier, w.1)))
        | inr last ↦ inr (inr (tests ∙ last, w.1))
      ]

  -- nothing is found of none
  pub no_links-found : (taken : List (List ℕ)) (a : Option SchemaFault) → Adds (AreLinkFaults models g taken []) a a
  no_links-found taken a = Adds-none (AreLinkFaults models g taken []) a none
    where
      none : (why : SchemaFault) → AreLinkFaults models g taken [] why → ⊥
      none why (inl w) = absurd (omega (arith, w.0.2))
      none why (inr (inl w)) = absurd (omega (arith, w.0.2))
      none why (inr (inr w)) = w.0

  -- the links with one more that may be
  pub links-new : (taken : List (List ℕ)) (links : List Inherits) (made new : List ParentLink) (i : Inherits) (l : ParentLink) → is_link models g (with_links models g taken links) i ≡ true → l.parent.now ≡ i → l.field ≡ link_def i
      → new ≡ made ++ l ∷ [] → AreLinks (links_from models g taken links) made → AreLinks (links_from models g taken (links ++ i ∷ [])) new
  links-new taken links made new i l is parent field grown are = record {
    parents = ap (λ (ls : List ParentLink). map (λ (k : ParentLink). k.parent.now) ls) grown ∙ map-push (λ (k : ParentLink). k.parent.now) made l
        ∙ ap (λ (ls : List Inherits). ls ++ l.parent.now ∷ []) are.parents ∙ ap (λ (j : Inherits). links_from models g taken links ++ j ∷ []) parent ∙ sym with_one;
    fields = ap (λ (ls : List ParentLink). map (λ (k : ParentLink). k.field) ls) grown ∙ map-push (λ (k : ParentLink). k.field) made l
        ∙ ap (λ (fs : List FieldDef). fs ++ l.field ∷ []) are.fields ∙ ap (λ (f : FieldDef). map link_def (links_from models g taken links) ++ f ∷ []) field
        ∙ sym (map-push link_def (links_from models g taken links) i) ∙ ap (map link_def) (sym with_one);
  }
    where
      with_one : links_from models g taken (links ++ i ∷ []) ≡ links_from models g taken links ++ i ∷ []
      with_one = links_from-push models g taken links i ∙ ap (λ (b : Bool). links_from models g taken links ++ cond {A = List Inherits} b (i ∷ []) []) is

  -- or with one that may not be
  pub links-kept : (taken : List (List ℕ)) (links : List Inherits) (made new : List ParentLink) (i : Inherits) → is_link models g (with_links models g taken links) i ≡ false → new ≡ made
      → AreLinks (links_from models g taken links) made → AreLinks (links_from models g taken (links ++ i ∷ [])) new
  links-kept taken links made new i is same are =
      let kept : links_from models g taken (links ++ i ∷ []) ≡ links_from models g taken links =
      links_from-push models g taken links i ∙ ap (λ (b : Bool). links_from models g taken links ++ cond {A = List Inherits} b (i ∷ []) []) is ∙ append-none (links_from models g taken links) in
      subst (λ (ls : List Inherits). AreLinks ls new) (sym kept) (subst (λ (ms : List ParentLink). AreLinks (links_from models g taken links) ms) (sym same) are)

  pub names-new : (taken : List (List ℕ)) (links : List Inherits) (i : Inherits) (names new : BTreeSet (String Global)) → is_link models g (with_links models g taken links) i ≡ true
      → AreTaken taken (with_links models g taken links) names → ((name : List ℕ) → contains_text new name ≡ cond (bytes_eq i.link name) true (contains_text names name))
      → AreTaken taken (with_links models g taken (links ++ i ∷ [])) new
  names-new taken links i names new is are updates name =
      ap (λ (ns : List (List ℕ)). is_one_of ns name) (with_links-push models g taken links i ∙ ap (λ (b : Bool). cond b (i.link ∷ with_links models g taken links) (with_links models g taken links)) is)
      ∙ ap (λ (b : Bool). b || is_one_of (with_links models g taken links) name) (bytes_eq-sym name i.link)
      ∙ ap (λ (b : Bool). bytes_eq i.link name || b) (are name)
      ∙ by (bytes_eq i.link name) (is_one_of taken name)
      ∙ ap (λ (b : Bool). is_one_of taken name || b) (sym (updates name))
    where
      by : (same given : Bool) → (same || (given || contains_text names name)) ≡ (given || cond same true (contains_text names name))
      by true true = refl
      by true false = refl
      by false given = refl

  pub names-kept : (taken : List (List ℕ)) (links : List Inherits) (i : Inherits) (names new : BTreeSet (String Global)) → is_link models g (with_links models g taken links) i ≡ false → new ≡ names
      → AreTaken taken (with_links models g taken links) names → AreTaken taken (with_links models g taken (links ++ i ∷ [])) new
  names-kept taken links i names new is same are name =
      ap (λ (ns : List (List ℕ)). is_one_of ns name) (with_links-push models g taken links i ∙ ap (λ (b : Bool). cond b (i.link ∷ with_links models g taken links) (with_links models g taken links)) is)
      ∙ are name ∙ ap (λ (ns : BTreeSet (String Global)). is_one_of taken name || contains_text ns name) (sym same)

  -- whether a parent may be one, by what is wrong with it
  pub is_parent-by : (i : Inherits) (what : Option Wrong) (test : Bool) → is_some what ≡ not test → what ≡ wrong_parent models g i → test ≡ may_inherit models g i
  is_parent-by i what test tests is = not_same test (may_inherit models g i) (sym tests ∙ ap (λ (o : Option Wrong). is_some o) is ∙ by (may_inherit models g i))
    where
      by : (b : Bool) → is_some (cond {A = Option Wrong} b None (Some (cond (is_some (model_of models i.model)) wrong.Inherits wrong.Model))) ≡ not b
      by true = refl
      by false = refl

  -- what is wrong with a parent, by the model of its name
  pub wrong-no_model : (i : Inherits) → NoModel i → Some wrong.Model ≡ wrong_parent models g i
  wrong-no_model i none = sym (ap (λ (o : Option Gathered). cond (may_by o) None (Some (cond (is_some o) wrong.Inherits wrong.Model))) none)

  wrong-target : (i : Inherits) (t : Gathered) → model_of models i.model ≡ Some t → wrong_parent models g i ≡ cond (not (bytes_eq t.name g.name) && is_none (slice_get t.inherits 0)) None (Some wrong.Inherits)
  wrong-target i t there = ap (λ (o : Option Gathered). cond (may_by o) None (Some (cond (is_some o) wrong.Inherits wrong.Model))) there

  pub wrong-none : (i : Inherits) (t : Gathered) → model_of models i.model ≡ Some t → bytes_eq t.name g.name ≡ false → is_none (slice_get t.inherits 0) ≡ true → None ≡ wrong_parent models g i
  wrong-none i t there other empty =
      sym (wrong-target i t there ∙ ap (λ (b : Bool). cond {A = Option Wrong} (not b && is_none (slice_get t.inherits 0)) None (Some wrong.Inherits)) other ∙ ap (λ (b : Bool). cond {A = Option Wrong} b None (Some wrong.Inherits)) empty)

  pub wrong-same : (i : Inherits) (t : Gathered) → model_of models i.model ≡ Some t → bytes_eq t.name g.name ≡ true → Some wrong.Inherits ≡ wrong_parent models g i
  wrong-same i t there same = sym (wrong-target i t there ∙ ap (λ (b : Bool). cond {A = Option Wrong} (not b && is_none (slice_get t.inherits 0)) None (Some wrong.Inherits)) same)

  pub wrong-child : (i : Inherits) (t : Gathered) → model_of models i.model ≡ Some t → is_none (slice_get t.inherits 0) ≡ false → Some wrong.Inherits ≡ wrong_parent models g i
  wrong-child i t there child =
      sym (wrong-target i t there ∙ ap (λ (b : Bool). cond {A = Option Wrong} (not (bytes_eq t.name g.name) && b) None (Some wrong.Inherits)) child
      ∙ ap (λ (b : Bool). cond {A = Option Wrong} b None (Some wrong.Inherits)) (and_false (not (bytes_eq t.name g.name))))
