-- When JSON is the caller's id, by its one member.
use Rattle.std.proofs.Common.{◌≡◌, ℕ, suc, ◌&&◌, eqb, ne_eqb, List, codes, Bool, true, false, Some, None, Ordering, Less, Equal, Greater, is_eq, nat_cmp, refl, sym, ap, ◌∙◌, subst, arith}
use Rattle.std.proofs.lemmas.Map.Text.{is_eq-slice_cmp}
use Rattle.std.proofs.lemmas.Slice.Eq.{bytes_eq-Decides}
use Rattle.std.specs.Cmp.Lexicographic.{slice_cmp}
use Rattle.std.specs.Ordering.{match_ordering}
use Rattle.std.specs.Str.{bytes_eq}
use Rattle.ob_domain.specs.Operands.{is_user}
use Rattle.serde_json.specs.Data.{Data, string, object, Members, no_members, member}
use Rattle.serde_json.specs.Events.{members_len}
use Rattle.serde_json.specs.Find.{as_str, get_member}

-- the key's own value is found
own_found : (o : Ordering) (d v : Data) → match_ordering o None (Some d) None ≡ Some v → (is_eq o ≡ true) × (d ≡ v)
own_found Less d v is = let none : None ≡ Some v = is in absurd (cc)
own_found Equal d v is = let some : Some d ≡ Some v = is in (refl, cc)
own_found Greater d v is = let none : None ≡ Some v = is in absurd (cc)

is_text : (d : Data) (text : List ℕ) → as_str d ≡ Some text → d ≡ string text
is_text (string s) text is = let same : Some s ≡ Some text = is in let e : s ≡ text = cc in ap string e
is_text _ text is = let none : None ≡ Some text = is in absurd (cc)

more_members : (key : List ℕ) (d : Data) (l : List ℕ) (e : Data) (ms : Members) → is_user (object (member key d (member l e ms))) ≡ false
more_members key (string s) l e ms = refl
more_members key _ l e ms = refl

one_member : (key : List ℕ) (d : Data) (text : List ℕ) → codes "user" ≡ key → d ≡ string text → is_user (object (member key d no_members)) ≡ bytes_eq text (codes "id")
one_member key d text is_key is_value =
    subst (λ (k : List ℕ). is_user (object (member k d no_members)) ≡ bytes_eq text (codes "id")) is_key
    (subst (λ (v : Data). is_user (object (member (codes "user") v no_members)) ≡ bytes_eq text (codes "id")) (sym is_value) refl)

-- the value of the one member decides
pub user_is : (ms : Members) (v : Data) (text : List ℕ) → get_member (codes "user") ms ≡ Some v → as_str v ≡ Some text → is_user (object ms) ≡ (eqb (members_len ms) 1 && bytes_eq text (codes "id"))
user_is no_members v text found is = let none : None ≡ Some v = found in absurd (cc)
user_is (member key d no_members) v text found is =
    let own = own_found (slice_cmp nat_cmp (codes "user") key) d v found in
    one_member key d text ((bytes_eq-Decides (codes "user") key).0 (sym (is_eq-slice_cmp (codes "user") key) ∙ own.0)) (own.1 ∙ is_text v text is)
user_is (member key d (member l e ms)) v text found is =
    let many : eqb (suc (suc (members_len ms))) 1 ≡ false = ne_eqb (suc (suc (members_len ms))) 1 (omega arith) in
    more_members key d l e ms ∙ (rw many refl)

by_key : (key text : List ℕ) (b : Bool) → bytes_eq key (codes "user") ≡ b → ((s : List ℕ) → get_member (codes "user") (member key (string text) no_members) ≡ Some (string s) → ⊥)
    → is_user (object (member key (string text) no_members)) ≡ false
by_key key text true is never =
    let same = sym ((bytes_eq-Decides key (codes "user")).0 is) in
    absurd (never text (subst (λ (k : List ℕ). get_member (codes "user") (member k (string text) no_members) ≡ Some (string text)) same refl))
by_key key text false is never = rw is refl

-- no text stands at the one key
pub not_user : (ms : Members) → ((s : List ℕ) → get_member (codes "user") ms ≡ Some (string s) → ⊥) → is_user (object ms) ≡ false
not_user no_members never = refl
not_user (member key (string text) no_members) never = by_key key text (bytes_eq key (codes "user")) refl never
not_user (member key _ no_members) never = refl
not_user (member key d (member l e ms)) never = more_members key d l e ms
