-- The steps by which the arguments of a call are gone through.
use Rattle.std.proofs.Common.{◌≡◌, ℕ, zero, suc, ◌+◌, ◌<◌, ◌&&◌, Bool, true, false, cond, List, [], ◌∷◌, ◌++◌, length, map, get_or, set, drop, Bor, Option, Some, None, option_map, Result, Ok, Err}
use Rattle.std.proofs.Common.{BTreeMap, codes, Global, String, Vec, string_bytes, nat_cmp, refl, sym, ap, subst, ◌∙◌, add-one, arith, append_assoc, rules}
use Rattle.std.proofs.lemmas.Bool.Decides.{nat_tests}
use Rattle.std.proofs.lemmas.List.{get_or-map, length-map, map-append, map-set}
use Rattle.std.proofs.Math.Seq.{drop-cons}
use Rattle.std.specs.Prelude.{is_some, not, bytes_eq}
use Rattle.std.specs.BTreeMap.{is_at}
use Rattle.std.specs.Cmp.Lexicographic.{slice_cmp}
use Rattle.std.specs.List.{position, slice_get}
use Rattle.std.specs.Map.{lookup}
use Rattle.ob_base.specs.Chain.{◌>>=◌}
use Rattle.ob_base.specs.declared.place.PathStep.{PathStep}
use Rattle.ob_base.specs.declared.place.PathStep.TheVariants.{Key}
use Rattle.ob_base.specs.declared.refusal.Refusal.{Refusal}
use Rattle.ob_base.specs.declared.refusal.Refusal.TheVariants as refusal
use Rattle.serde_json.specs.Data.{Data}
use Rattle.serde_json.specs.View.{view, members_view}
use Rattle.serde_json.specs.declared.value.Value.{Value, Array, Object, the_lemmas}
use Rattle.serde_json.proofs.Views.{Entry, view_of_ref, view-lookup}
use Rattle.ob_call.specs.Arguments.{Expected, arguments_of, by_name, by_position, entries, has_key, is_context, name_place, named, named_in, position_place, positioned, with_name}
use Rattle.ob_call.specs.Arguments as arguments
use Rattle.ob_call.specs.ArgumentsSteps.{all_given_of, at_position, expected_of, given_of, number_named}
use Rattle.ob_call.specs.Places.{IsMalformedAt}
use Rattle.ob_call.specs.Results.{IsResultOf}
use Rattle.ob_call.specs.declared.arguments.Given.{Given}
use Rattle.ob_call.specs.declared.arguments.Parameter.{Parameter}
use Rattle.ob_call.proofs.Items.{array_is, items_are, object_is}

-- ---- a key of an object

-- something is there, whatever it is seen as
there : {A B : Type 0} (f : A → B) (r : Option A) → is_some r ≡ is_some (option_map f r)
there f None = refl
there f (Some x) = refl

-- a look-up finds something where the object has the key
pub has_key_found : (json : Value) (m : BTreeMap (String Global) Value) (name : List ℕ) (r : Option (Bor Value)) → json ≡ Object m
    → option_map (λ x. x.now) r ≡ lookup (is_at (λ k. slice_cmp nat_cmp name (string_bytes k))) m.entries → is_some r ≡ has_key name (view json)
has_key_found json m name r is found =
    there (λ x. view x.now) r ∙ ap is_some (view_of_ref r ∙ ap (option_map view) found ∙ view-lookup name m.entries) ∙ sym (ap (has_key name) (object_is json m is))

-- ---- refusals

-- the refusal of a part refuses the whole
pub refused : {A B A' B' : Type 0} (of : A → B) (of' : A' → B') (why : Refusal) (part : Result B (List PathStep)) (whole : Result B' (List PathStep))
    → ((w : List PathStep) → part ≡ Err w → whole ≡ Err w) → IsResultOf of (Err why) part → IsResultOf of' (Err why) whole
refused of of' (refusal.Request place) part whole h g = h place g
refused of of' refusal.NoMemory part whole h g = tt
refused of of' _ part whole h g = g

-- a refusal at a place, where that place is what is wrong
pub malformed_gives : {A B : Type 0} (of : A → B) (why : Refusal) (place : List PathStep) (whole : Result B (List PathStep)) → IsMalformedAt place why → whole ≡ Err place → IsResultOf of (Err why) whole
malformed_gives of (refusal.Request told) place whole is e = e ∙ ap Err (sym is)
malformed_gives of refusal.NoMemory place whole is e = tt
malformed_gives of _ place whole is e = is

-- ---- by position

-- what is told after these
abbrev pub after : List (Option arguments.Given) → Result (List (Option arguments.Given)) (List PathStep) → Result (List (Option arguments.Given)) (List PathStep)
after done r = r >>= λ rest. Ok (done ++ rest)

-- what stands at a number, and what follows it
next_by : Data → ℕ → Expected → List Expected → Option Data → List Data → Result (List (Option arguments.Given)) (List PathStep)
next_by kw n p ps d ds = at_position kw n p d >>= λ first. by_position kw (n + 1) ps ds >>= λ rest. Ok (first ∷ rest)

-- a test that refuses, before what follows
chosen : {A B : Type 0} (b : Bool) (w : List PathStep) (x : A) (rest : A → Result B (List PathStep)) → cond b (Err w) (rest x) ≡ (cond b (Err w) (Ok x) >>= rest)
chosen true w x rest = refl
chosen false w x rest = refl

-- where nothing is left by position
by_none : (kw : Data) (n : ℕ) (p : Expected) (ps : List Expected) → by_position kw n (p ∷ ps) [] ≡ next_by kw n p ps None []
unfolding next_by
by_none kw n p ps = chosen (p.required && not (has_key p.name kw)) (position_place n) None (λ first. by_position kw (n + 1) ps [] >>= λ rest. Ok (first ∷ rest))

-- what follows from the items at a number on
by_items : (kw : Data) (n : ℕ) (p : Expected) (ps : List Expected) (vs : List Value) (i : ℕ)
    → by_position kw n (p ∷ ps) (map view (drop i vs)) ≡ next_by kw n p ps (option_map view (slice_get vs i)) (map view (drop (suc i) vs))
unfolding next_by
by_items kw n p ps [] zero = by_none kw n p ps
by_items kw n p ps [] (suc i) = by_none kw n p ps
by_items kw n p ps (v ∷ vs) zero = refl
by_items kw n p ps (v ∷ vs) (suc i) = by_items kw n p ps vs i

-- What the forms of parameters fault: what is read of them is read over this.
module _ {F : Type 0} (fault : F → Data → Option (List PathStep)) where
  -- what a parameter expects
  abbrev pub exp : Parameter F → Expected
  exp = expected_of fault

  -- what stands at a number, and what follows
  abbrev pub from : Data → List (Parameter F) → List Value → ℕ → Result (List (Option arguments.Given)) (List PathStep)
  from kw ps vs i = by_position kw i (map exp (drop i ps)) (map view (drop i vs))

  -- one step further, by position
  at_step : (kw : Data) (ps : List (Parameter F)) (vs : List Value) (i : ℕ) (d : Parameter F) → i < length ps
      → from kw ps vs i ≡ (at_position kw i (exp (get_or ps i d)) (option_map view (slice_get vs i)) >>= λ first. from kw ps vs (i + 1) >>= λ rest. Ok (first ∷ rest))
  unfolding next_by
  at_step kw ps vs i d inside =
      ap (λ (qs : List (Parameter F)). by_position kw i (map exp qs) (map view (drop i vs))) (drop-cons ps i d inside)
      ∙ by_items kw i (exp (get_or ps i d)) (map exp (drop (suc i) ps)) vs i
      ∙ ap (λ (j : ℕ). at_position kw i (exp (get_or ps i d)) (option_map view (slice_get vs i)) >>= λ first. by_position kw (i + 1) (map exp (drop j ps)) (map view (drop j vs)) >>= λ rest. Ok (first ∷ rest)) (sym (add-one i))

  -- one step further, by the parameter that stands there
  at_own : (kw : Data) (ps : List (Parameter F)) (vs : List Value) (i : ℕ) (d : Parameter F) → i < length ps → d ≡ get_or ps i d
      → from kw ps vs i ≡ (at_position kw i (exp d) (option_map view (slice_get vs i)) >>= λ first. from kw ps vs (i + 1) >>= λ rest. Ok (first ∷ rest))
  at_own kw ps vs i d inside is =
      at_step kw ps vs i d inside
      ∙ ap (λ (p : Parameter F). at_position kw i (exp p) (option_map view (slice_get vs i)) >>= λ first. from kw ps vs (i + 1) >>= λ rest. Ok (first ∷ rest)) (sym is)

  -- one more is told before the rest
  more_after : (done : List (Option arguments.Given)) (x : Option arguments.Given) (r : Result (List (Option arguments.Given)) (List PathStep)) → after done (r >>= λ rest. Ok (x ∷ rest)) ≡ after (done ++ x ∷ []) r
  more_after done x (Ok rest) = ap Ok (sym (append_assoc done (x ∷ []) rest))
  more_after done x (Err w) = refl

  -- what was told by position, as far as a number
  abbrev pub IsReadTo : Data → List (Parameter F) → List Value → List (Option Given) → ℕ → Type 0
  IsReadTo kw ps vs given i = by_position kw 0 (map exp ps) (map view vs) ≡ after (all_given_of given) (from kw ps vs i)

  -- one more
  pub read_more : (kw : Data) (ps : List (Parameter F)) (vs : List Value) (given more : List (Option Given)) (i : ℕ) (d : Parameter F) (own : Option Given)
      → i < length ps → more ≡ given ++ own ∷ [] → d ≡ get_or ps i d
      → IsReadTo kw ps vs given i
      → IsResultOf (option_map given_of) (Ok own) (at_position kw i (exp d) (option_map view (slice_get vs i)))
      → IsReadTo kw ps vs more (i + 1)
  read_more kw ps vs given more i d own inside pushed is told gave =
      told ∙ ap (after (all_given_of given)) (at_own kw ps vs i d inside is ∙ ap (λ (r : Result (Option arguments.Given) (List PathStep)). r >>= λ first. from kw ps vs (i + 1) >>= λ rest. Ok (first ∷ rest)) gave)
      ∙ more_after (all_given_of given) (option_map given_of own) (from kw ps vs (i + 1))
      ∙ ap (λ (done : List (Option arguments.Given)). after done (from kw ps vs (i + 1))) (sym (ap all_given_of pushed ∙ map-append (option_map given_of) given (own ∷ [])))

  -- one that is refused
  pub read_refused : {A : Type 0} (of : A → List (Option arguments.Given)) (kw : Data) (ps : List (Parameter F)) (vs : List Value) (given : List (Option Given)) (i : ℕ) (d : Parameter F) (why : Refusal)
      → i < length ps → d ≡ get_or ps i d
      → IsReadTo kw ps vs given i
      → IsResultOf (option_map given_of) (Err why) (at_position kw i (exp d) (option_map view (slice_get vs i)))
      → IsResultOf of (Err why) (by_position kw 0 (map exp ps) (map view vs))
  read_refused of kw ps vs given i d why inside is told gave =
      refused (option_map given_of) of why (at_position kw i (exp d) (option_map view (slice_get vs i))) (by_position kw 0 (map exp ps) (map view vs))
      (λ w e. told ∙ ap (after (all_given_of given)) (at_own kw ps vs i d inside is ∙ ap (λ (r : Result (Option arguments.Given) (List PathStep)). r >>= λ first. from kw ps vs (i + 1) >>= λ rest. Ok (first ∷ rest)) e)) gave

  -- ---- by name

  -- whether a parameter has the name
  abbrev pub is_named : List ℕ → Parameter F → Bool
  is_named name p = bytes_eq p.name.now name

  -- the first place in a list is its head, or one further on
  position-cons : {X : Type 0} (test : X → Bool) (x : X) (xs : List X) → position test (x ∷ xs) ≡ cond (test x) (Some 0) (option_map suc (position test xs))
  position-cons test x xs = grind (arith, nat_tests)

  -- the arguments with what a name gives at a number
  put_at : List ℕ → Data → List (Parameter F) → List (Option arguments.Given) → ℕ → Parameter F → Option arguments.Given → Result (List (Option arguments.Given)) (List PathStep)
  put_at name d ps gs n q h = named name d (exp (get_or ps n q)) (get_or gs n h) >>= λ own. Ok (set gs n own)

  -- no number, where none is here and none later
  none_step : {A : Type 0} (b : Bool) (later : Option ℕ) (here next : Result A (List PathStep)) (w : List PathStep)
      → cond b (Some 0) (option_map suc later) ≡ None → (later ≡ None → next ≡ Err w) → cond b here next ≡ Err w
  none_step true later here next w e f = absurd cc
  none_step false None here next w e f = f refl
  none_step false (Some n) here next w e f = absurd cc

  -- a name that gives nothing
  with_name-none : (name : List ℕ) (d : Data) (ps : List (Parameter F)) (gs : List (Option arguments.Given)) → number_named name ps ≡ None → with_name name d (map exp ps) gs ≡ Err (name_place name)
  with_name-none name d [] gs e = refl
  with_name-none name d (p ∷ ps) [] e = refl
  with_name-none name d (p ∷ ps) (g ∷ gs) e =
      none_step (is_named name p) (number_named name ps) _ _ (name_place name) (sym (position-cons (is_named name) p ps) ∙ e)
      (λ later. ap (λ (r : Result (List (Option arguments.Given)) (List PathStep)). r >>= λ rest. Ok (g ∷ rest)) (with_name-none name d ps gs later))

  -- one more stands before the place
  put_later : (g : Option arguments.Given) (gs : List (Option arguments.Given)) (n : ℕ) (r : Result (Option arguments.Given) (List PathStep))
      → ((r >>= λ own. Ok (set gs n own)) >>= λ rest. Ok (g ∷ rest)) ≡ (r >>= λ own. Ok (set (g ∷ gs) (suc n) own))
  put_later g gs n (Ok own) = refl
  put_later g gs n (Err w) = refl

  -- what is at a number is here, or further on
  some_step : (name : List ℕ) (d : Data) (p q : Parameter F) (ps : List (Parameter F)) (g h : Option arguments.Given) (gs : List (Option arguments.Given)) (b : Bool) (later : Option ℕ) (n : ℕ)
      → cond b (Some 0) (option_map suc later) ≡ Some n
      → ((m : ℕ) → later ≡ Some m → with_name name d (map exp ps) gs ≡ put_at name d ps gs m q h)
      → cond b (named name d (exp p) g >>= λ own. Ok (own ∷ gs)) (with_name name d (map exp ps) gs >>= λ rest. Ok (g ∷ rest)) ≡ put_at name d (p ∷ ps) (g ∷ gs) n q h
  unfolding put_at
  some_step name d p q ps g h gs true later n e f =
      let first : 0 ≡ n = cc in ap (λ (m : ℕ). put_at name d (p ∷ ps) (g ∷ gs) m q h) first
  some_step name d p q ps g h gs false None n e f = absurd cc
  some_step name d p q ps g h gs false (Some m) n e f =
      let next : suc m ≡ n = cc in
      ap (λ (r : Result (List (Option arguments.Given)) (List PathStep)). r >>= λ rest. Ok (g ∷ rest)) (f m refl)
      ∙ put_later g gs m (named name d (exp (get_or ps m q)) (get_or gs m h))
      ∙ ap (λ (k : ℕ). put_at name d (p ∷ ps) (g ∷ gs) k q h) next

  -- a name that gives what is at a number
  with_name-some : (name : List ℕ) (d : Data) (q : Parameter F) (h : Option arguments.Given) (ps : List (Parameter F)) (gs : List (Option arguments.Given)) (n : ℕ)
      → length gs ≡ length ps → number_named name ps ≡ Some n → with_name name d (map exp ps) gs ≡ put_at name d ps gs n q h
  with_name-some name d q h [] gs n sized e = absurd cc
  with_name-some name d q h (p ∷ ps) [] n sized e = absurd (omega arith)
  with_name-some name d q h (p ∷ ps) (g ∷ gs) n sized e =
      let rest : length gs ≡ length ps = omega arith in
      some_step name d p q ps g h gs (is_named name p) (number_named name ps) n (sym (position-cons (is_named name) p ps) ∙ e) (λ m later. with_name-some name d q h ps gs m rest later)

  -- what the names give from these entries on
  abbrev pub names_from : List (Parameter F) → List Entry → List (Option Given) → Result (List (Option arguments.Given)) (List PathStep)
  names_from ps es gs = by_name (map exp ps) (entries (members_view es)) (all_given_of gs)

  -- what was told by name, as far as these entries
  abbrev pub IsNamedTo : List (Parameter F) → List Entry → List (Option Given) → List Entry → List (Option Given) → Type 0
  IsNamedTo ps all first es gs = names_from ps all first ≡ names_from ps es gs

  -- an entry that is no context
  by_entry : (ps : List (Parameter F)) (s t : List Entry) (k : String Global) (v : Value) (name : List ℕ) (gs : List (Option Given))
      → s ≡ (k, v) ∷ t → name ≡ string_bytes k → bytes_eq name (codes "context") ≡ false
      → names_from ps s gs ≡ (with_name name (view v) (map exp ps) (all_given_of gs) >>= by_name (map exp ps) (entries (members_view t)))
  by_entry ps s t k v name gs is same other =
      let later = by_name (map exp ps) (entries (members_view t)) in
      let skipped : Result (List (Option arguments.Given)) (List PathStep) = cond (is_context (view v)) (later (all_given_of gs)) (Err (name_place (string_bytes k))) in
      ap (λ (es : List Entry). names_from ps es gs) is
      ∙ ap (λ (b : Bool). cond b skipped (with_name (string_bytes k) (view v) (map exp ps) (all_given_of gs) >>= later)) (sym (ap (λ (n : List ℕ). bytes_eq n (codes "context")) same) ∙ other)
      ∙ ap (λ (n : List ℕ). with_name n (view v) (map exp ps) (all_given_of gs) >>= later) (sym same)

  -- a name that is no argument is refused
  pub named_nothing : {A : Type 0} (of : A → List (Option arguments.Given)) (ps : List (Parameter F)) (all s t : List Entry) (k : String Global) (v : Value) (name : List ℕ) (first gs : List (Option Given)) (why : Refusal)
      → s ≡ (k, v) ∷ t → name ≡ string_bytes k → bytes_eq name (codes "context") ≡ false
      → (number_named name ps ≡ None) × IsMalformedAt (name_place name) why
      → IsNamedTo ps all first s gs
      → IsResultOf of (Err why) (names_from ps all first)
  named_nothing of ps all s t k v name first gs why is same other none told =
      malformed_gives of why (name_place name) (names_from ps all first) none.1
      (told ∙ by_entry ps s t k v name gs is same other
      ∙ ap (λ (r : Result (List (Option arguments.Given)) (List PathStep)). r >>= by_name (map exp ps) (entries (members_view t))) (with_name-none name (view v) ps (all_given_of gs) none.0))

  -- what is at a number
  given_at : (given : List (Option Given)) (n : ℕ) (g : Option Given) → n < length given → get_or (all_given_of given) n None ≡ option_map given_of (get_or given n g)
  given_at given n g inside = get_or-map (option_map given_of) given n g None inside

  -- what a name gives is told in its place
  by_number : (ps : List (Parameter F)) (s t : List Entry) (k : String Global) (v : Value) (name : List ℕ) (gs : List (Option Given)) (n : ℕ) (d : Parameter F) (h : Option Given)
      → s ≡ (k, v) ∷ t → name ≡ string_bytes k → bytes_eq name (codes "context") ≡ false → length gs ≡ length ps → n < length ps → d ≡ get_or ps n d → h ≡ get_or gs n h
      → number_named name ps ≡ Some n
      → names_from ps s gs ≡ ((named name (view v) (exp d) (option_map given_of h) >>= λ own. Ok (set (all_given_of gs) n own)) >>= by_name (map exp ps) (entries (members_view t)))
  unfolding put_at
  by_number ps s t k v name gs n d h is same other sized inside at before some =
      let within : n < length gs = omega arith in
      let all : length (all_given_of gs) ≡ length ps = length-map gs (option_map given_of) ∙ sized in
      by_entry ps s t k v name gs is same other
      ∙ ap (λ (r : Result (List (Option arguments.Given)) (List PathStep)). r >>= by_name (map exp ps) (entries (members_view t)))
      (with_name-some name (view v) d None ps (all_given_of gs) n all some
      ∙ ap (λ (was : Option arguments.Given). named name (view v) (exp (get_or ps n d)) was >>= λ own. Ok (set (all_given_of gs) n own)) (given_at gs n h within ∙ ap (option_map given_of) (sym before))
      ∙ ap (λ (p : Parameter F). named name (view v) (exp p) (option_map given_of h) >>= λ own. Ok (set (all_given_of gs) n own)) (sym at))

  -- one that is refused
  pub named_refused : {A : Type 0} (of : A → List (Option arguments.Given)) (ps : List (Parameter F)) (all s t : List Entry) (k : String Global) (v : Value) (name : List ℕ) (first gs : List
      (Option Given)) (n : ℕ) (d : Parameter F) (h : Option Given) (why : Refusal)
      → s ≡ (k, v) ∷ t → name ≡ string_bytes k → bytes_eq name (codes "context") ≡ false → length gs ≡ length ps → n < length ps → d ≡ get_or ps n d → h ≡ get_or gs n h
      → number_named name ps ≡ Some n
      → IsNamedTo ps all first s gs
      → IsResultOf (option_map given_of) (Err why) (named name (view v) (exp d) (option_map given_of h))
      → IsResultOf of (Err why) (names_from ps all first)
  named_refused of ps all s t k v name first gs n d h why is same other sized inside at before some told gave =
      refused (option_map given_of) of why (named name (view v) (exp d) (option_map given_of h)) (names_from ps all first)
      (λ w wrong. told ∙ by_number ps s t k v name gs n d h is same other sized inside at before some
      ∙ ap (λ (r : Result (Option arguments.Given) (List PathStep)). (r >>= λ own. Ok (set (all_given_of gs) n own)) >>= by_name (map exp ps) (entries (members_view t))) wrong) gave

  -- one more
  pub named_more : (ps : List (Parameter F)) (all s t : List Entry) (k : String Global) (v : Value) (name : List ℕ) (first gs : List (Option Given)) (n : ℕ) (d : Parameter F) (h own : Option Given)
      → s ≡ (k, v) ∷ t → name ≡ string_bytes k → bytes_eq name (codes "context") ≡ false → length gs ≡ length ps → n < length ps → d ≡ get_or ps n d → h ≡ get_or gs n h
      → number_named name ps ≡ Some n
      → IsNamedTo ps all first s gs
      → IsResultOf (option_map given_of) (Ok own) (named name (view v) (exp d) (option_map given_of h))
      → IsNamedTo ps all first t (set gs n own)
  named_more ps all s t k v name first gs n d h own is same other sized inside at before some told gave =
      told ∙ by_number ps s t k v name gs n d h is same other sized inside at before some
      ∙ ap (λ (r : Result (Option arguments.Given) (List PathStep)). (r >>= λ own. Ok (set (all_given_of gs) n own)) >>= by_name (map exp ps) (entries (members_view t))) gave
      ∙ ap (by_name (map exp ps) (entries (members_view t))) (sym (map-set (option_map given_of) gs n own))

-- ---- all of them

-- where the positional arguments are a list
listed_in : (ps : List Expected) (args : Value) (kw : Data) (v : Vec Value Global) (slice : List Value) → args ≡ Array v → slice ≡ v.items
    → arguments_of ps (view args) kw ≡ (by_position kw 0 ps (map view slice) >>= named_in ps kw)
listed_in ps args kw v slice is same =
    ap (λ (d : Data). arguments_of ps d kw) (array_is args v is)
    ∙ sym (items_are (λ ds. by_position kw 0 ps ds >>= named_in ps kw) slice v same)

-- a refusal by position
pub positions_refused : {A : Type 0} (of : A → List (Option arguments.Given)) (ps : List Expected) (args : Value) (kw : Data) (v : Vec Value Global) (slice : List Value) (why : Refusal)
    → args ≡ Array v → slice ≡ v.items
    → IsResultOf of (Err why) (by_position kw 0 ps (map view slice))
    → IsResultOf of (Err why) (arguments_of ps (view args) kw)
positions_refused of ps args kw v slice why is same gave =
    refused of of why (by_position kw 0 ps (map view slice)) (arguments_of ps (view args) kw)
    (λ w wrong. listed_in ps args kw v slice is same ∙ ap (λ (r : Result (List (Option arguments.Given)) (List PathStep)). r >>= named_in ps kw) wrong) gave

-- what is told where the positions are right
pub positions_told : {A : Type 0} (of : A → List (Option arguments.Given)) (ps : List Expected) (args : Value) (kw : Data) (v : Vec Value Global) (slice : List Value) (given : List (Option arguments.Given)) (result : Result A Refusal)
    → args ≡ Array v → slice ≡ v.items
    → by_position kw 0 ps (map view slice) ≡ Ok given
    → IsResultOf of result (named_in ps kw given)
    → IsResultOf of result (arguments_of ps (view args) kw)
positions_told of ps args kw v slice given result is same told gave =
    subst (IsResultOf of result) (sym (listed_in ps args kw v slice is same ∙ ap (λ (r : Result (List (Option arguments.Given)) (List PathStep)). r >>= named_in ps kw) told)) gave

-- what the names of an object give
pub object_told : {A : Type 0} (of : A → List (Option arguments.Given)) (ps : List Expected) (kw : Value) (m : BTreeMap (String Global) Value) (given : List (Option arguments.Given)) (result : Result A Refusal)
    → kw ≡ Object m
    → IsResultOf of result (by_name ps (entries (members_view m.entries)) given)
    → IsResultOf of result (named_in ps (view kw) given)
object_told of ps kw m given result is gave = subst (IsResultOf of result) (sym (ap (λ (d : Data). named_in ps d given) (object_is kw m is))) gave

-- where the named arguments are no object
pub no_object : (ps : List Expected) (kw : Value) (given : List (Option arguments.Given)) → ((m : BTreeMap (String Global) Value) → kw ≡ Object m → ⊥) → named_in ps (view kw) given ≡ Err (Key (codes "kw") ∷ [])
no_object ps kw given other = search (rules, the_lemmas)
