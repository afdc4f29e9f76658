-- Rows that go to their groups, one after the other.
use Rattle.std.proofs.Common.{◌≡◌, ℕ, ◌+◌, ◌<◌, ◌≤◌, Bool, true, false, cond, ◌||◌, List, [], ◌∷◌, ◌++◌, map, filter, length, Option, Some, None, Vec, Global, refl, sym, ap, subst, ◌∙◌, arith, append_assoc, length-append}
use Rattle.std.specs.Prelude.{All, is_some}
use Rattle.std.specs.BTreeMap as tree
use Rattle.std.specs.Map.{AreApart, IsKeyTest, KeepsOthers, lookup}
use Rattle.std.specs.Option.{option_map_or}
use Rattle.std.specs.Ordering.{eq_by_cmp}
use Rattle.std.proofs.lemmas.List.{append-nil}
use Rattle.ob_base.specs.declared.id.FieldNo.{FieldNo}
use Rattle.ob_base.specs.declared.id.RecId.{RecId}
use Rattle.ob_base.specs.declared.value.Value.{Value}
use Rattle.ob_codec.specs.Held.{HasText}
use Rattle.ob_group.proofs.GroupKeys.{Entry, alike_same, vec_order}
use Rattle.ob_group.specs.GroupForms.{AskedGroups}
use Rattle.ob_group.specs.GroupParts.{AreSome, Groups, group_at, is_alike, keys_order, row_of, rows_among, rows_at, rows_in, sort_keys_of}
use Rattle.ob_query.specs.declared.searching.order.Key.{Key}

-- what one row adds to a group
abbrev pub one_row : Bool → List Value → List (List Value)
one_row b row = cond b (row ∷ []) []

among_by : (f : RecId → List Value) (id : RecId) (ids : List RecId) (b : Bool) → map f (cond b (id ∷ ids) ids) ≡ one_row b (f id) ++ map f ids
among_by f id ids true = refl
among_by f id ids false = refl

module _ (held : FieldNo → RecId → Value) (asked : AskedGroups) where
  among-more : (id : RecId) (ids : List RecId) (keys : List Key) → rows_among held asked (id ∷ ids) keys ≡ one_row (is_alike (sort_keys_of held asked id) keys) (row_of held asked.aggregates id) ++ rows_among held asked ids keys
  among-more id ids keys = among_by (row_of held asked.aggregates) id (filter (λ other. is_alike (sort_keys_of held asked other) keys) ids) (is_alike (sort_keys_of held asked id) keys)

  -- one row more is in its group
  pub gathered-more : (all front rest : List RecId) (id : RecId) (old new : Groups) (keys : List Key) (row : List Value) → front ≡ id ∷ rest → keys ≡ sort_keys_of held asked id → row ≡ row_of held asked.aggregates id
      → ((at : List Key) → rows_at new at ≡ rows_at old at ++ one_row (is_alike keys at) row) → ((at : List Key) → rows_among held asked all at ≡ rows_at old at ++ rows_among held asked front at)
      → (at : List Key) → rows_among held asked all at ≡ rows_at new at ++ rows_among held asked rest at
  gathered-more all front rest id old new keys row taken key_is row_is added so_far at =
      so_far at ∙ ap (λ (l : List RecId). rows_at old at ++ rows_among held asked l at) taken ∙ ap (λ (l : List (List Value)). rows_at old at ++ l) (among-more id rest at)
      ∙ ap (λ (k : List Key). rows_at old at ++ (one_row (is_alike k at) (row_of held asked.aggregates id) ++ rows_among held asked rest at)) (sym key_is)
      ∙ ap (λ (r : List Value). rows_at old at ++ (one_row (is_alike keys at) r ++ rows_among held asked rest at)) (sym row_is)
      ∙ sym (append_assoc (rows_at old at) (one_row (is_alike keys at) row) (rows_among held asked rest at))
      ∙ ap (λ (l : List (List Value)). l ++ rows_among held asked rest at) (sym (added at))

  -- none is left
  pub gathered-all : (all front : List RecId) (groups : Groups) → front ≡ [] → ((at : List Key) → rows_among held asked all at ≡ rows_at groups at ++ rows_among held asked front at) → (at : List Key)
      → rows_at groups at ≡ rows_among held asked all at
  gathered-all all front groups none so_far at = sym (so_far at ∙ ap (λ (l : List RecId). rows_at groups at ++ rows_among held asked l at) none ∙ append-nil (rows_at groups at))

-- ---- whatever is told

pub none_some : (groups : Groups) → ((at : List Key) → is_some (group_at groups at) ≡ false) → AreSome groups
none_some groups none = record { rows = λ at there. absurd (let no = none at in cc); texts = λ at there. absurd (let no = none at in cc) }

some_by : (b c : Bool) (old one : List (List Value)) (row : List Value) → one ≡ one_row b row → (b || c) ≡ true → (c ≡ true → 0 < length old) → 0 < length (old ++ one)
some_by true c old one row is there h = let size : length one ≡ 1 = ap length is in omega (arith, length-append old one, size)
some_by false c old one row is there h = let some = h there in omega (arith, length-append old one, some)

texts_by : (b c : Bool) (keys at : List Key) → (b ≡ true → keys ≡ at) → (b || c) ≡ true → All (λ (key : Key). HasText key.value) keys → (c ≡ true → All (λ (key : Key). HasText key.value) at) → All (λ (key : Key). HasText key.value) at
texts_by true c keys at same there own h = subst (All (λ (key : Key). HasText key.value)) (same refl) own
texts_by false c keys at same there own h = h there

-- one row more leaves no group empty
pub some-more : (old new : Groups) (keys : List Key) (row : List Value) → ((at : List Key) → rows_at new at ≡ rows_at old at ++ one_row (is_alike keys at) row)
    → ((at : List Key) → is_some (group_at new at) ≡ (is_alike keys at || is_some (group_at old at))) → All (λ (key : Key). HasText key.value) keys → AreSome old → AreSome new
some-more old new keys row added found texts some = record {
  rows = λ at there.
      subst (λ (l : List (List Value)). 0 < length l) (sym (added at))
      (some_by (is_alike keys at) (is_some (group_at old at)) (rows_at old at) (one_row (is_alike keys at) row) row refl (sym (found at) ∙ there) (some.rows at));
  texts = λ at there. texts_by (is_alike keys at) (is_some (group_at old at)) keys at (alike_same keys at) (sym (found at) ∙ there) texts (some.texts at);
}

-- ---- a map with one row more

by_alike : {W : Type 0} (f g : List Key → W) (keys : List Key) (w : W) → g keys ≡ w → ((at : List Key) → is_alike keys at ≡ false → g at ≡ f at) → (at : List Key) (b : Bool) → is_alike keys at ≡ b → g at ≡ cond b w (f at)
by_alike f g keys w here other at true e = ap g (sym (alike_same keys at e)) ∙ here
by_alike f g keys w here other at false e = other at e

not_both : (keys at own : List Key) → is_alike keys at ≡ false → is_alike keys own ≡ true → (b : Bool) → is_alike at own ≡ b → b ≡ false
not_both keys at own apart first true e =
    absurd (let same : is_alike keys at ≡ true = ap (is_alike keys) (alike_same at own e) ∙ first in cc)
not_both keys at own apart first false e = refl

module _ (old new : List Entry) (keys : List Key) (others : KeepsOthers (eq_by_cmp vec_order) (tree.is_at (λ (own : Vec Key Global). keys_order keys own.items)) old new) where
  kept_others : (other : Vec Key Global → Bool) → IsKeyTest (eq_by_cmp vec_order) other → AreApart (tree.is_at (λ (own : Vec Key Global). keys_order keys own.items)) other → lookup other new ≡ lookup other old
  unfolding KeepsOthers
  kept_others = others

-- what a change at some keys leaves
pub group_updates : (keys : List Key) (old new : Groups) (w : Option (Vec (Vec Value Global) Global)) → tree.UpdatesBy vec_order (λ (own : Vec Key Global). keys_order keys own.items) old new w
    → (at : List Key) → group_at new at ≡ cond (is_alike keys at) w (group_at old at)
group_updates keys old new w h at = by_alike (group_at old) (group_at new) keys w h.1
    (λ at apart. kept_others old.entries new.entries keys h.3 (λ (own : Vec Key Global). is_alike at own.items) (λ x y there. ap (λ (k : List Key). is_alike k y.items) (alike_same at x.items there))
    (λ own there. not_both keys at own.items apart there (is_alike at own.items) refl)) at (is_alike keys at) refl

added_by : (keys at : List Key) (old mid new : Option (Vec (Vec Value Global) Global)) (here : List (List Value)) (rows0 rows1 : Vec (Vec Value Global) Global) (row : List Value) (b : Bool) → (b ≡ true → here ≡ option_map_or rows_in old [])
    → mid ≡ cond b None old → new ≡ cond b (Some rows1) mid → rows_in rows1 ≡ rows_in rows0 ++ row ∷ [] → rows_in rows0 ≡ here → option_map_or rows_in new [] ≡ option_map_or rows_in old [] ++ one_row b row
added_by keys at old mid new here rows0 rows1 row true same m n pushed first =
    ap (λ (o : Option (Vec (Vec Value Global) Global)). option_map_or rows_in o []) n ∙ pushed ∙ ap (λ (l : List (List Value)). l ++ row ∷ []) (first ∙ same refl)
added_by keys at old mid new here rows0 rows1 row false same m n pushed first =
    ap (λ (o : Option (Vec (Vec Value Global) Global)). option_map_or rows_in o []) (n ∙ m) ∙ sym (append-nil (option_map_or rows_in old []))

-- the rows of a group, with one row more where it is that
pub added-rows : (keys at : List Key) (old mid new : Groups) (rows0 rows1 : Vec (Vec Value Global) Global) (row : List Value) → group_at mid at ≡ cond (is_alike keys at) None (group_at old at)
    → group_at new at ≡ cond (is_alike keys at) (Some rows1) (group_at mid at) → rows_in rows1 ≡ rows_in rows0 ++ row ∷ [] → rows_in rows0 ≡ rows_at old keys → rows_at new at ≡ rows_at old at ++ one_row (is_alike keys at) row
added-rows keys at old mid new rows0 rows1 row = added_by keys at (group_at old at) (group_at mid at) (group_at new at) (rows_at old keys) rows0 rows1 row (is_alike keys at) (λ e. ap (rows_at old) (alike_same keys at e))

found_by_test : (old mid new : Option (Vec (Vec Value Global) Global)) (rows1 : Vec (Vec Value Global) Global) (b : Bool) → mid ≡ cond b None old → new ≡ cond b (Some rows1) mid → is_some new ≡ (b || is_some old)
found_by_test old mid new rows1 true m n = ap is_some n
found_by_test old mid new rows1 false m n = ap is_some (n ∙ m)

pub added-found : (keys at : List Key) (old mid new : Groups) (rows1 : Vec (Vec Value Global) Global) → group_at mid at ≡ cond (is_alike keys at) None (group_at old at)
    → group_at new at ≡ cond (is_alike keys at) (Some rows1) (group_at mid at)
    → is_some (group_at new at) ≡ (is_alike keys at || is_some (group_at old at))
added-found keys at old mid new rows1 = found_by_test (group_at old at) (group_at mid at) (group_at new at) rows1 (is_alike keys at)
