-- Where the arguments of a call are right, each fits what is expected of it.
use Rattle.std.proofs.Common.{◌≡◌, ℕ, ◌+◌, ◌&&◌, ◌||◌, Bool, true, false, cond, List, [], ◌∷◌, map, codes, Option, Some, None, Result, Ok, Err, refl, sym, ap, subst, ◌∙◌}
use Rattle.std.proofs.lemmas.Map.Text.{is_eq-slice_cmp}
use Rattle.std.proofs.lemmas.Slice.Eq.{bytes_eq-Decides}
use Rattle.std.specs.Cmp.Lexicographic.{slice_cmp}
use Rattle.std.specs.Ordering.{is_eq, match_ordering, nat_cmp}
use Rattle.std.specs.Prelude.{is_some, not, IfOk, ⊤}
use Rattle.std.specs.Str.{bytes_eq}
use Rattle.std.specs.declared.cmp.Ordering.{Ordering}
use Rattle.std.specs.declared.cmp.Ordering.TheVariants.{Less, Equal, Greater}
use Rattle.ob_base.specs.Chain.{◌>>=◌}
use Rattle.ob_base.specs.declared.place.PathStep.{PathStep}
use Rattle.ob_base.specs.declared.refusal.Refusal.{Refusal}
use Rattle.serde_json.specs.Data.{Data, object, Members, no_members, member}
use Rattle.serde_json.specs.Find.{get_member}
use Rattle.ob_call.specs.Arguments.{AreFit, Expected, Given, are_apart, arguments_of, by_name, by_position, entries, has_key, is_absent, is_among, is_context, is_nothing, items_in, judged, name_place}
use Rattle.ob_call.specs.Arguments.{named, named_in, position_place, positioned, with_name}
use Rattle.ob_call.specs.ArgumentsSteps.{expected_of, names_of}
use Rattle.ob_call.specs.Results.{IsResultOf}
use Rattle.ob_call.specs.declared.arguments.Parameter.{Parameter}

-- ---- steps of what is told

-- the parts of what was told
bound : {A B P : Type 0} (r : Result A (List PathStep)) (f : A → Result B (List PathStep)) (y : B) → (r >>= f) ≡ Ok y → ((x : A) → r ≡ Ok x → f x ≡ Ok y → P) → P
bound (Ok x) f y e k = k x refl e
bound (Err w) f y e k = absurd cc

-- which way a test went
either : {A P : Type 0} (b : Bool) (r s : Result A (List PathStep)) (y : A) → cond b r s ≡ Ok y → (b ≡ true → r ≡ Ok y → P) → (b ≡ false → s ≡ Ok y → P) → P
either true r s y e t f = t refl e
either false r s y e t f = f refl e

-- a test was passed that would have refused
passed : {A P : Type 0} (b : Bool) (r : Result A (List PathStep)) (w : List PathStep) (y : A) → cond b r (Err w) ≡ Ok y → (b ≡ true → r ≡ Ok y → P) → P
passed true r w y e t = t refl e
passed false r w y e t = absurd cc

-- a test did not refuse
not_failed : {A P : Type 0} (b : Bool) (r : Result A (List PathStep)) (w : List PathStep) (y : A) → cond b (Err w) r ≡ Ok y → (b ≡ false → r ≡ Ok y → P) → P
not_failed true r w y e f = absurd cc
not_failed false r w y e f = f refl e

-- ---- one argument

-- one fits so far: one that is given is of its form, and one that must be given has a key that is still to come
abbrev Fits : (List ℕ → Bool) → Expected → Option Given → Type 0
Fits key p None = p.required ≡ true → key p.name ≡ true
Fits key p (Some g) = p.fault g.json ≡ None

-- each fits so far
abbrev AllFit : (List ℕ → Bool) → List Expected → List (Option Given) → Type 0
AllFit key [] [] = ⊤
AllFit key (p ∷ ps) (g ∷ gs) = Fits key p g × AllFit key ps gs
AllFit key _ _ = ⊥

-- one that need not be given fits where it isn't
optional : {P : Type 0} (r n : Bool) → not r && n ≡ true → r ≡ true → P
optional true n e is = absurd cc
optional false n e is = absurd cc

-- what was judged as right
judged_fits : (key : List ℕ → Bool) (p : Expected) (place : List PathStep) (d : Data) (o : Option (List PathStep)) (own : Option Given) → p.fault d ≡ o → judged place d o ≡ Ok own → Fits key p own
judged_fits key p place d None own is e =
    let given : own ≡ Some (record { place = place; json = d }) = cc in
    subst (Fits key p) (sym given) is
judged_fits key p place d (Some below) own is e = absurd cc

-- one that stands at its position
positioned_fits : (key : List ℕ → Bool) (p : Expected) (place : List PathStep) (d : Data) (own : Option Given) → positioned place p d ≡ Ok own → Fits key p own
positioned_fits key p place d own e =
    either (is_absent p d) (Ok None) (judged place d (p.fault d)) own e
    (λ absent is. let none : None ≡ own = cc in subst (Fits key p) none (optional p.required (is_nothing p.fault d) absent))
    (λ _ is. judged_fits key p place d (p.fault d) own refl is)

-- one that is passed over stays as it was
passed_over : (key later : List ℕ → Bool) (p : Expected) (d : Data) (g : Option Given) → is_absent p d ≡ true → Fits key p g → Fits later p g
passed_over key later p d None absent h = optional p.required (is_nothing p.fault d) absent
passed_over key later p d (Some g) absent h = h

-- one by its name
named_fits : (key later : List ℕ → Bool) (p : Expected) (name : List ℕ) (d : Data) (g own : Option Given) → Fits key p g → named name d p g ≡ Ok own → Fits later p own
named_fits key later p name d g own h e =
    either (is_absent p d) (Ok g) _ own e
    (λ absent is. let same : g ≡ own = cc in subst (Fits later p) same (passed_over key later p d g absent h))
    (λ _ more. not_failed (is_some g) (judged (name_place name) d (p.fault d)) (name_place name) own more
    (λ _ is. judged_fits later p (name_place name) d (p.fault d) own refl is))

-- ---- by position

-- what must be given and is missing has a name that gives it
comes : (r key : Bool) → r && not key ≡ false → r ≡ true → key ≡ true
comes true true e is = refl
comes true false e is = absurd cc
comes false key e is = absurd cc

-- after the positions each fits, or a name gives it
by_position-fits : (kw : Data) (n : ℕ) (ps : List Expected) (ds : List Data) (gs : List (Option Given)) → by_position kw n ps ds ≡ Ok gs → AllFit (λ name. has_key name kw) ps gs
by_position-fits kw n [] ds gs e = not_failed _ (Ok []) _ gs e (λ _ is. let same : [] ≡ gs = cc in subst (AllFit (λ name. has_key name kw) []) same tt)
by_position-fits kw n (p ∷ ps) [] gs e =
    not_failed (p.required && not (has_key p.name kw)) (by_position kw (n + 1) ps [] >>= λ rest. Ok (None ∷ rest)) (position_place n) gs e (λ key is. bound (by_position kw (n + 1) ps []) (λ rest. Ok (None ∷ rest)) gs is (λ rest was end.
    let same : None ∷ rest ≡ gs = cc in
    subst (AllFit (λ name. has_key name kw) (p ∷ ps)) same (comes p.required (has_key p.name kw) key, by_position-fits kw (n + 1) ps [] rest was)))
by_position-fits kw n (p ∷ ps) (d ∷ ds) gs e =
    bound (positioned (position_place n) p d) _ gs e (λ first is more. bound (by_position kw (n + 1) ps ds) _ gs more (λ rest was end.
    let same : first ∷ rest ≡ gs = cc in
    subst (AllFit (λ name. has_key name kw) (p ∷ ps)) same (positioned_fits (λ name. has_key name kw) p (position_place n) d first is, by_position-fits kw (n + 1) ps ds rest was)))

-- ---- by name

-- the names of what is expected
abbrev names : List Expected → List (List ℕ)
names ps = map (λ (p : Expected). p.name) ps

-- no number of names has this one
neither : {P : Type 0} (a b : Bool) → a || b ≡ false → (a ≡ false → b ≡ false → P) → P
neither true b e k = absurd cc
neither false b e k = k refl e

-- both tests pass
both : {P : Type 0} (a b : Bool) → not a && b ≡ true → (a ≡ false → b ≡ true → P) → P
both true b e k = absurd cc
both false b e k = k refl e

-- one fits still, where another name was passed
fits_on : (key later : List ℕ → Bool) (p : Expected) (g : Option Given) → (key p.name ≡ true → later p.name ≡ true) → Fits key p g → Fits later p g
fits_on key later p None more h = λ must. more (h must)
fits_on key later p (Some g) more h = h

-- each fits still, where a name was passed that none of them has
all_fit_on : (key later : List ℕ → Bool) (name : List ℕ) (ps : List Expected) (gs : List (Option Given)) → ((n : List ℕ) → bytes_eq n name ≡ false → key n ≡ true → later n ≡ true)
    → is_among name (names ps) ≡ false → AllFit key ps gs → AllFit later ps gs
all_fit_on key later name [] [] more apart h = tt
all_fit_on key later name [] (g ∷ gs) more apart h = h
all_fit_on key later name (p ∷ ps) [] more apart h = h
all_fit_on key later name (p ∷ ps) (g ∷ gs) more apart h =
    neither (bytes_eq p.name name) (is_among name (names ps)) apart
    (λ other rest. (fits_on key later p g (more p.name other) h.0, all_fit_on key later name ps gs more rest h.1))

-- after a name each fits
with_name-fits : (key later : List ℕ → Bool) (name : List ℕ) (d : Data) (ps : List Expected) (gs told : List (Option Given)) → ((n : List ℕ) → bytes_eq n name ≡ false → key n ≡ true → later n ≡ true)
    → are_apart (names ps) ≡ true → AllFit key ps gs → with_name name d ps gs ≡ Ok told → AllFit later ps told
with_name-fits key later name d [] gs told more apart h e = absurd cc
with_name-fits key later name d (p ∷ ps) [] told more apart h e = absurd cc
with_name-fits key later name d (p ∷ ps) (g ∷ gs) told more apart h e =
    both (is_among p.name (names ps)) (are_apart (names ps)) apart (λ alone others.
    either (bytes_eq p.name name) (named name d p g >>= λ own. Ok (own ∷ gs)) (with_name name d ps gs >>= λ rest. Ok (g ∷ rest)) told e
    (λ here is. bound (named name d p g) (λ own. Ok (own ∷ gs)) told is (λ own was end.
    let same : own ∷ gs ≡ told = cc in
    let none : is_among name (names ps) ≡ false = ap (λ (n : List ℕ). is_among n (names ps)) (sym ((bytes_eq-Decides p.name name).0 here)) ∙ alone in
    subst (AllFit later (p ∷ ps)) same (named_fits key later p name d g own h.0 was, all_fit_on key later name ps gs more none h.1)))
    (λ other is. bound (with_name name d ps gs) (λ rest. Ok (g ∷ rest)) told is (λ rest was end.
    let same : g ∷ rest ≡ told = cc in
    subst (AllFit later (p ∷ ps)) same (fits_on key later p g (more p.name other) h.0, with_name-fits key later name d ps gs rest more others h.1 was))))

-- a name that comes among these entries
abbrev comes_in : List (List ℕ × Data) → List ℕ → Bool
comes_in [] name = false
comes_in (e ∷ es) name = bytes_eq name e.0 || comes_in es name

-- a name that comes, but not here, comes later
other_comes : (here later : Bool) → here ≡ false → here || later ≡ true → later ≡ true
other_comes true later e h = absurd cc
other_comes false later e h = h

-- after all names each fits
by_name-fits : (ps : List Expected) (es : List (List ℕ × Data)) (gs told : List (Option Given)) → are_apart (codes "context" ∷ names ps) ≡ true
    → AllFit (comes_in es) ps gs → by_name ps es gs ≡ Ok told → AllFit (λ _. false) ps told
by_name-fits ps [] gs told apart h e = let same : gs ≡ told = cc in subst (AllFit (λ _. false) ps) same h
by_name-fits ps (x ∷ es) gs told apart h e =
    let more : (n : List ℕ) → bytes_eq n x.0 ≡ false → comes_in (x ∷ es) n ≡ true → comes_in es n ≡ true = λ n other. other_comes (bytes_eq n x.0) (comes_in es n) other in
    both (is_among (codes "context") (names ps)) (are_apart (names ps)) apart (λ alone others.
    either (bytes_eq x.0 (codes "context")) _ _ told e
    (λ context is. passed (is_context x.1) (by_name ps es gs) (name_place x.0) told is (λ _ was.
    let none : is_among x.0 (names ps) ≡ false = ap (λ (n : List ℕ). is_among n (names ps)) ((bytes_eq-Decides x.0 (codes "context")).0 context) ∙ alone in
    by_name-fits ps es gs told apart (all_fit_on (comes_in (x ∷ es)) (comes_in es) x.0 ps gs more none h) was))
    (λ _ is. bound (with_name x.0 x.1 ps gs) (by_name ps es) told is (λ given was end.
    by_name-fits ps es given told apart (with_name-fits (comes_in (x ∷ es)) (comes_in es) x.0 x.1 ps gs given more others h was) end)))

-- ---- all of them

-- the entry that a look-up passes is what it finds, or what comes after
found_here : (o : Ordering) (rest : Option Data) (d : Data) (later : Bool) → is_some rest ≡ later → is_some (match_ordering o rest (Some d) rest) ≡ is_eq o || later
found_here Less rest d later e = e
found_here Equal rest d later e = refl
found_here Greater rest d later e = e

-- an object has a key where one of its entries has
has_member : (members : Members) (name : List ℕ) → is_some (get_member name members) ≡ comes_in (entries members) name
has_member no_members name = refl
has_member (member key d members) name =
    found_here (slice_cmp nat_cmp name key) (get_member name members) d (comes_in (entries members) name) (has_member members name)
    ∙ ap (λ (b : Bool). b || comes_in (entries members) name) (is_eq-slice_cmp name key)

-- each fits by another test of the names that is the same
fit_by : (key later : List ℕ → Bool) (ps : List Expected) (gs : List (Option Given)) → ((n : List ℕ) → key n ≡ later n) → AllFit key ps gs → AllFit later ps gs
fit_by key later [] [] same h = tt
fit_by key later [] (g ∷ gs) same h = h
fit_by key later (p ∷ ps) [] same h = h
fit_by key later (p ∷ ps) (g ∷ gs) same h = (fits_on key later p g (λ is. sym (same p.name) ∙ is) h.0, fit_by key later ps gs same h.1)

-- after the named arguments each fits
named_in-fits : (ps : List Expected) (kw : Data) (gs told : List (Option Given)) → are_apart (codes "context" ∷ names ps) ≡ true
    → AllFit (λ name. has_key name kw) ps gs → named_in ps kw gs ≡ Ok told → AllFit (λ _. false) ps told
named_in-fits ps (object members) gs told apart h e =
    by_name-fits ps (entries members) gs told apart (fit_by (λ name. has_key name (object members)) (comes_in (entries members)) ps gs (has_member members) h) e
named_in-fits ps _ gs told apart h e = absurd cc

-- where nothing is to come, each fits
are_fit : (ps : List Expected) (gs : List (Option Given)) → AllFit (λ _. false) ps gs → AreFit ps gs
are_fit [] [] h = tt
are_fit [] (g ∷ gs) h = h
are_fit (p ∷ ps) [] h = h
are_fit (p ∷ ps) (None ∷ gs) h = (not_required p.required h.0, are_fit ps gs h.1) where
  not_required : (r : Bool) → (r ≡ true → false ≡ true) → r ≡ false
  not_required true k = sym (k refl)
  not_required false k = refl
are_fit (p ∷ ps) (Some g ∷ gs) h = (h.0, are_fit ps gs h.1)

-- the arguments that are right fit what is expected of them
pub arguments-fit : (ps : List Expected) (args kw : Data) (gs : List (Option Given)) → are_apart (codes "context" ∷ names ps) ≡ true → arguments_of ps args kw ≡ Ok gs → AreFit ps gs
arguments-fit ps args kw gs apart e =
    bound (items_in args >>= by_position kw 0 ps) (named_in ps kw) gs e
    (λ given was end. bound (items_in args) (by_position kw 0 ps) given was
    (λ ds _ by. are_fit ps gs (named_in-fits ps kw given gs apart (by_position-fits kw 0 ps ds given by) end)))

-- what is read as defined fits
pub result-fits : {A : Type 0} (of : A → List (Option Given)) (r : Result A Refusal) (ps : List Expected) (args kw : Data) → are_apart (codes "context" ∷ names ps) ≡ true
    → IsResultOf of r (arguments_of ps args kw) → IfOk r (λ a. AreFit ps (of a))
result-fits of (Ok a) ps args kw apart h = arguments-fit ps args kw (of a) apart h
result-fits of (Err why) ps args kw apart h = tt

-- the names of parameters are those of what they expect
names_are : {F : Type 0} (fault : F → Data → Option (List PathStep)) (ps : List (Parameter F)) → names (map (expected_of fault) ps) ≡ names_of ps
names_are fault [] = refl
names_are fault (p ∷ ps) = ap (λ (ns : List (List ℕ)). p.name.now ∷ ns) (names_are fault ps)

-- and so they are apart
pub names_apart : {F : Type 0} (fault : F → Data → Option (List PathStep)) (ps : List (Parameter F)) → are_apart (codes "context" ∷ names_of ps) ≡ true → are_apart (codes "context" ∷ names (map (expected_of fault) ps)) ≡ true
names_apart fault ps apart = ap (λ (ns : List (List ℕ)). are_apart (codes "context" ∷ ns)) (names_are fault ps) ∙ apart
