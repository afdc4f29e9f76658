-- What is found, room by room.
use Rattle.std.proofs.Common.{◌≡◌, ◌⊎◌, inl, inr, Bool, true, false, cond, Option, Some, None, refl, sym, subst}
use Rattle.std.specs.Ordering.{is_lt}
use Rattle.std.specs.declared.cmp.Ordering.TheVariants.{Less}
use Rattle.ob_definition.specs.declared.fault.SchemaFault.{SchemaFault}
use Rattle.ob_definition.specs.declared.fault.Spot.{Spot}
use Rattle.ob_definition.specs.declared.wrong.Wrong.{Wrong}
use Rattle.ob_definition.specs.Ranking.{rank, rank_order}
use Rattle.ob_definition.specs.Findings.{Adds, IsAt, IsFoundBy, fault_at, lesser_of}
use Rattle.ob_definition.proofs.Ranks.{irreflexive, is_less, is_not_less, none_between, one_way}

some_same : {X : Type 0} (a b : X) → ◌≡◌ {A = Option X} (Some a) (Some b) → a ≡ b
some_same a b e = cc

-- what isn't after b isn't after what b isn't after
IsFoundBy-on : (found : Option SchemaFault) (b why : SchemaFault) → (rank_order (rank why) (rank b) ≡ Less → ⊥) → IsFoundBy found b → IsFoundBy found why
IsFoundBy-on None b why stays by = by
IsFoundBy-on (Some first) b why stays by = none_between (rank first) (rank b) (rank why) by stays

IsFoundBy-later : (mid new : Option SchemaFault) (why : SchemaFault) → IsFoundBy mid why → ((b : SchemaFault) → mid ≡ Some b → IsFoundBy new b) → IsFoundBy new why
IsFoundBy-later None new why by on = absurd by
IsFoundBy-later (Some b) new why by on = IsFoundBy-on new b why by (on b refl)

-- nothing is found
pub Adds-none : (R : SchemaFault → Type 0) (a : Option SchemaFault) → ((why : SchemaFault) → R why → ⊥) → Adds R a a
Adds-none R a none = record {
  among = λ first e. inl e;
  least = λ why r. absurd (none why r);
  kept = λ why e. rw e (irreflexive (rank why));
}

-- what two rooms find, one behind the other
pub Adds-both : (R Q : SchemaFault → Type 0) (a b c : Option SchemaFault) → Adds R a b → Adds Q b c → Adds (λ why. R why ⊎ Q why) a c
Adds-both R Q a b c first second = record {
  among = λ why e. elim (second.among why e) as (λ _. (a ≡ Some why) ⊎ (R why ⊎ Q why)) [
    | inl old ↦ elim (first.among why old) as (λ _. (a ≡ Some why) ⊎ (R why ⊎ Q why)) [ inl older ↦ inl older | inr r ↦ inr (inl r) ]
    | inr q ↦ inr (inr q)
  ];
  least = λ why found. elim found as (λ _. IsFoundBy c why) [
    | inl r ↦ IsFoundBy-later b c why (first.least why r) second.kept
    | inr q ↦ second.least why q
  ];
  kept = λ why e. IsFoundBy-later b c why (first.kept why e) second.kept;
}

-- rooms with the same faults
pub Adds-same : (R Q : SchemaFault → Type 0) (a b : Option SchemaFault) → ((why : SchemaFault) → R why → Q why) → ((why : SchemaFault) → Q why → R why) → Adds R a b → Adds Q a b
Adds-same R Q a b to from adds = record {
  among = λ why e. elim (adds.among why e) as (λ _. (a ≡ Some why) ⊎ Q why) [ inl old ↦ inl old | inr r ↦ inr (to why r) ];
  least = λ why q. adds.least why (from why q);
  kept = adds.kept;
}

-- one fault more, by the one test that tells which comes first
one_by : (w : SchemaFault) (a : SchemaFault) (less : Bool) → is_lt (rank_order (rank w) (rank a)) ≡ less → Adds (λ why. why ≡ w) (Some a) (cond less (Some w) (Some a))
one_by w a true test = record {
  among = λ first e. inr (sym (some_same w first e));
  least = λ why e. rw e (irreflexive (rank w));
  kept = λ why e. rw (← some_same a why e) (one_way (rank w) (rank a) (is_less (rank_order (rank w) (rank a)) test));
}
one_by w a false test = record {
  among = λ first e. inl e;
  least = λ why e. rw e (is_not_less (rank_order (rank w) (rank a)) test);
  kept = λ why e. rw (← some_same a why e) (irreflexive (rank a));
}

pub Adds-one : (w : SchemaFault) (a : Option SchemaFault) → Adds (λ why. why ≡ w) a (lesser_of a w)
Adds-one w None = record {
  among = λ first e. inr (sym (some_same w first e));
  least = λ why e. rw e (irreflexive (rank w));
  kept = λ why e. absurd (cc);
}
Adds-one w (Some a) = one_by w a (is_lt (rank_order (rank w) (rank a))) refl

-- what is told at a spot, and nothing
pub Adds-told : (what : Option Wrong) (w : Wrong) (spot : Spot) (a b : Option SchemaFault) → what ≡ Some w → b ≡ lesser_of a (fault_at w spot) → Adds (IsAt what spot) a b
Adds-told what w spot a b is new =
    subst (λ (o : Option Wrong). Adds (IsAt o spot) a b) (sym is) (subst (λ (o : Option SchemaFault). Adds (λ why. why ≡ fault_at w spot) a o) (sym new) (Adds-one (fault_at w spot) a))

pub Adds-untold : (what : Option Wrong) (spot : Spot) (a : Option SchemaFault) → what ≡ None → Adds (IsAt what spot) a a
Adds-untold what spot a is = Adds-none (IsAt what spot) a (λ why at. subst (λ (o : Option Wrong). IsAt o spot why) is at)
