-- The item of a connection's bytes is the only one, and what of it longer bytes keep.
use Rattle.std.proofs.Common.{◌≡◌, ℕ, ◌+◌, ◌-◌, ◌<◌, ◌≤◌, Bool, true, false, cond, List, [], ◌++◌, length, take, drop, refl, sym, ap, ◌∙◌, subst, arith, inl, inr, append_assoc, length-append, length-take, length-drop, Option, Some, None, Result, Ok, Err}
use Rattle.std.specs.Prelude.{nat_le, nat_lt}
use Rattle.std.specs.Bool.{MatchBool}
use Rattle.std.proofs.lemmas.Bool.{leb-true}
use Rattle.std.proofs.lemmas.List.{take_at, drop_at, take-take, take-append-le, drop-append-le, take-append-drop}
use Rattle.httparse.proofs.GrammarLemmas.{request_unique}
use Rattle.ob_base.specs.Limits.{max_head_bytes, max_head_fields}
use Rattle.ob_http.specs.Lines.{are_empty_lines}
use Rattle.ob_http.specs.Head.{Head, head_of, has_other_version, ReadsMessage, Asks}
use Rattle.ob_http.specs.Message.{message_of}
use Rattle.ob_http.specs.Item.{Item, post, fault, ended, cut, headless_item, FollowsHead, BeginsWith, IsItem, goes_on, is_interim_due}
use Rattle.ob_http.specs.Connection.{AsksInterim}
use Rattle.ob_http.specs.declared.head.Message.{Message}
use Rattle.ob_http.proofs.HeadLaws.{head_of_longer, ends_within}
use Rattle.ob_http.proofs.ItemLaws.{body_follows, due_item}

-- one answer of the checks

one_reading : (bytes : List ℕ) (a b : Result Message ℕ) → ReadsMessage bytes a → ReadsMessage bytes b → a ≡ b
one_reading bytes a b (inl x) (inl y) = x.2 ∙ ap message_of (request_unique bytes x.0 y.0 [] [] x.1 y.1).0 ∙ sym y.2
one_reading bytes a b (inl x) (inr y) = absurd (y.0 x.0 x.1)
one_reading bytes a b (inr x) (inl y) = absurd (x.0 y.0 y.1)
one_reading bytes a b (inr x) (inr y) = x.1 ∙ sym y.1

one_answer : (bytes : List ℕ) (head : Head) (a b : Result Message ℕ) → Asks bytes head a → Asks bytes head b → a ≡ b
one_answer bytes head a b first second = when (nat_lt max_head_fields head.fields) (has_other_version head.line) first second
  where
    when : (many other : Bool) → MatchBool many (a ≡ Err 431) (MatchBool other (a ≡ Err 505) (ReadsMessage bytes a))
        → MatchBool many (b ≡ Err 431) (MatchBool other (b ≡ Err 505) (ReadsMessage bytes b)) → a ≡ b
    when true other x y = x ∙ sym y
    when false true x y = x ∙ sym y
    when false false x y = one_reading bytes a b x y

-- one item behind a head

one_behind : (found : Result Message ℕ) (after : List ℕ) (a b : Item) (rest other : List ℕ) → FollowsHead found after a rest → FollowsHead found after b other → (a ≡ b) × (rest ≡ other)
one_behind (Err status) after a b rest other x y = (x.0 ∙ sym y.0, x.1 ∙ sym y.1)
one_behind (Ok message) after a b rest other x y = when (nat_le message.length (length after)) x y
  where
    when : (enough : Bool) → MatchBool enough ((a ≡ post (take message.length after) message.keep message.interim) × (rest ≡ drop message.length after)) ((a ≡ cut message.interim) × (rest ≡ []))
        → MatchBool enough ((b ≡ post (take message.length after) message.keep message.interim) × (other ≡ drop message.length after)) ((b ≡ cut message.interim) × (other ≡ [])) → (a ≡ b) × (rest ≡ other)
    when true x y = (x.0 ∙ sym y.0, x.1 ∙ sym y.1)
    when false x y = (x.0 ∙ sym y.0, x.1 ∙ sym y.1)

pub one_item : (bytes : List ℕ) (a b : Item) (rest other : List ℕ) → IsItem bytes a rest → IsItem bytes b other → (a ≡ b) × (rest ≡ other)
one_item bytes a b rest other first second = by_head (head_of (take max_head_bytes bytes)) first second
  where
    by_head : (o : Option Head) → BeginsWith o bytes a rest → BeginsWith o bytes b other → (a ≡ b) × (rest ≡ other)
    by_head None x y = (x.0 ∙ sym y.0, x.1 ∙ sym y.1)
    by_head (Some head) x y =
        let after = drop head.size bytes in
        let same : x.0 ≡ y.0 = one_answer (take head.size bytes) head x.0 y.0 x.1 y.1 in
        one_behind y.0 after a b rest other (subst (λ found. FollowsHead found after a rest) same x.2) y.2

-- the head of bytes, within the limit

-- the bytes begin with a head that is one whatever follows it
record HasHead (bytes : List ℕ) (head : Head) : Type 0 where
  within : head.size ≤ length bytes
  few : head.size ≤ max_head_bytes
  alone : head_of (take head.size bytes) ≡ Some head

has_head : (bytes : List ℕ) (head : Head) → head_of (take max_head_bytes bytes) ≡ Some head → HasHead bytes head
has_head bytes head is =
    let ends = ends_within (take max_head_bytes bytes) head is in
    let few : head.size ≤ max_head_bytes = omega (arith, ends.within, length-take max_head_bytes bytes) in record {
      within = omega (arith, ends.within, length-take max_head_bytes bytes);
      few = few;
      alone = ap head_of (sym (take-take head.size max_head_bytes bytes few)) ∙ ends.alone;
    }

-- the item of bytes that begin with a head
item_behind : (bytes : List ℕ) (head : Head) (found : Result Message ℕ) (item : Item) (left : List ℕ) → head.size ≤ max_head_bytes → head_of (take head.size bytes) ≡ Some head
    → Asks (take head.size bytes) head found → FollowsHead found (drop head.size bytes) item left → IsItem bytes item left
item_behind bytes head found item left few is asked follows =
    let n = head.size in
    let front = take max_head_bytes bytes in
    let split : front ≡ take n bytes ++ drop n front = sym (take-append-drop n front) ∙ ap (λ bs. bs ++ drop n front) (take-take n max_head_bytes bytes few) in
    let whole : head_of front ≡ Some head = ap head_of split ∙ head_of_longer (take n bytes) (drop n front) head is in
    subst (λ o. BeginsWith o bytes item left) (sym whole) (found, asked, follows)

-- items that aren't served, or end, don't go on

headless_ends : (bytes : List ℕ) → goes_on (headless_item bytes) ≡ false
headless_ends bytes = when (nat_le max_head_bytes (length bytes)) (are_empty_lines bytes)
  where
    when : (long empty : Bool) → goes_on (cond long (fault 431) (cond empty ended (cut false))) ≡ false
    when true empty = refl
    when false true = refl
    when false false = refl

no_clash : {T : Type 0} (item other : Item) → item ≡ other → goes_on item ≡ true → goes_on other ≡ false → T
no_clash item other is goes stops = let clash : true ≡ false = sym goes ∙ ap goes_on is ∙ stops in absurd (cc)

-- a message whose body has come
record WholeBody (message : Message) (after : List ℕ) (item : Item) (rest : List ℕ) : Type 0 where
  enough : message.length ≤ length after
  item_is : item ≡ post (take message.length after) message.keep message.interim
  rest_is : rest ≡ drop message.length after

whole_body : (message : Message) (after : List ℕ) (item : Item) (rest : List ℕ) → goes_on item ≡ true → FollowsHead (Ok message) after item rest → WholeBody message after item rest
whole_body message after item rest goes follows = when (nat_le message.length (length after)) refl follows
  where
    when : (enough : Bool) → nat_le message.length (length after) ≡ enough
        → MatchBool enough ((item ≡ post (take message.length after) message.keep message.interim) × (rest ≡ drop message.length after)) ((item ≡ cut message.interim) × (rest ≡ []))
        → WholeBody message after item rest
    when true e x = record { enough = leb-true message.length (length after) e; item_is = x.0; rest_is = x.1 }
    when false e x = no_clash item (cut message.interim) x.0 goes refl

-- behind the head stands the body, and then what follows
body_again : (message : Message) (body other : List ℕ) (item : Item) → length body ≡ message.length → item ≡ post body message.keep message.interim → FollowsHead (Ok message) (body ++ other) item other
body_again message body other item size item_is =
    let n = message.length in
    let follows = body_follows message (body ++ other) (omega (arith, size, length-append body other)) in
    let same : post (take n (body ++ other)) message.keep message.interim ≡ item = ap (λ bs. post bs message.keep message.interim) (take_at body other n size) ∙ sym item_is in
    subst (λ i. FollowsHead (Ok message) (body ++ other) i other) same
    (subst (λ left. FollowsHead (Ok message) (body ++ other) (post (take n (body ++ other)) message.keep message.interim) left) (drop_at body other n size) follows)

-- a message that keeps the connection is one by the bytes that it took, whatever follows
taken_alone : (front rest other : List ℕ) (item : Item) (head : Head) (message : Message) → HasHead (front ++ rest) head → Asks (take head.size (front ++ rest)) head (Ok message)
    → WholeBody message (drop head.size (front ++ rest)) item rest → IsItem (front ++ other) item other
taken_alone front rest other item head message has asked whole =
    let n = head.size in
    let behind : length (drop n (front ++ rest)) ≡ length (front ++ rest) - n = length-drop n (front ++ rest) in
    let left : length rest ≡ length (drop n (front ++ rest)) - message.length = ap length whole.rest_is ∙ length-drop message.length (drop n (front ++ rest)) in
    let size : length front ≡ n + message.length = omega (arith, has.within, whole.enough, behind, left, length-append front rest) in
    let within : n ≤ length front = omega arith in
    let body = drop n front in
    let count : length body ≡ message.length = omega (arith, length-drop n front, size) in
    let first : take n (front ++ rest) ≡ take n (front ++ other) = take-append-le n front rest within ∙ sym (take-append-le n front other within) in
    let item_is : item ≡ post body message.keep message.interim =
    whole.item_is ∙ ap (λ bs. post (take message.length bs) message.keep message.interim) (drop-append-le n front rest within) ∙ ap (λ bs. post bs message.keep message.interim) (take_at body rest message.length count) in
    item_behind (front ++ other) head (Ok message) item other has.few (ap head_of (sym first) ∙ has.alone) (subst (λ bs. Asks bs head (Ok message)) first asked)
    (subst (λ bs. FollowsHead (Ok message) bs item other) (sym (drop-append-le n front other within)) (body_again message body other item count item_is))

pub item_of_its_bytes : (front rest other : List ℕ) (item : Item) → goes_on item ≡ true → IsItem (front ++ rest) item rest → IsItem (front ++ other) item other
item_of_its_bytes front rest other item goes is = by_head (head_of (take max_head_bytes (front ++ rest))) refl is
  where
    by_answer : (head : Head) (found : Result Message ℕ) → HasHead (front ++ rest) head → Asks (take head.size (front ++ rest)) head found
        → FollowsHead found (drop head.size (front ++ rest)) item rest → IsItem (front ++ other) item other
    by_answer head (Err status) has asked follows = no_clash item (fault status) follows.0 goes refl
    by_answer head (Ok message) has asked follows = taken_alone front rest other item head message has asked (whole_body message (drop head.size (front ++ rest)) item rest goes follows)

    by_head : (o : Option Head) → head_of (take max_head_bytes (front ++ rest)) ≡ o → BeginsWith o (front ++ rest) item rest → IsItem (front ++ other) item other
    by_head None e x = no_clash item (headless_item (front ++ rest)) x.0 goes (headless_ends (front ++ rest))
    by_head (Some head) e x = by_answer head x.0 (has_head (front ++ rest) head e) x.1 x.2

-- the interim line

headless_not_due : (bytes : List ℕ) → is_interim_due (headless_item bytes) ≡ false
headless_not_due bytes = when (nat_le max_head_bytes (length bytes)) (are_empty_lines bytes)
  where
    when : (long empty : Bool) → is_interim_due (cond long (fault 431) (cond empty ended (cut false))) ≡ false
    when true empty = refl
    when false true = refl
    when false false = refl

-- before no item is it due and not due
no_due : {T : Type 0} (item other : Item) → item ≡ other → is_interim_due item ≡ true → is_interim_due other ≡ false → T
no_due item other is due none = let clash : true ≡ false = sym due ∙ ap is_interim_due is ∙ none in absurd (cc)

-- where it is due, the message says so
due_message : (message : Message) (after : List ℕ) (item : Item) (rest : List ℕ) → is_interim_due item ≡ true → FollowsHead (Ok message) after item rest → message.interim ≡ true
due_message message after item rest due follows = when (nat_le message.length (length after)) follows
  where
    when : (enough : Bool) → MatchBool enough ((item ≡ post (take message.length after) message.keep message.interim) × (rest ≡ drop message.length after)) ((item ≡ cut message.interim) × (rest ≡ [])) → message.interim ≡ true
    when true x = sym (ap is_interim_due x.0) ∙ due
    when false x = sym (ap is_interim_due x.0) ∙ due

-- and longer bytes have the same head
due_longer : (bytes more : List ℕ) (head : Head) (message : Message) → HasHead bytes head → Asks (take head.size bytes) head (Ok message) → message.interim ≡ true → AsksInterim (bytes ++ more)
due_longer bytes more head message has asked due =
    let n = head.size in
    let first : take n bytes ≡ take n (bytes ++ more) = sym (take-append-le n bytes more has.within) in
    let behind = due_item message (drop n (bytes ++ more)) in record {
      item = behind.0;
      rest = behind.1;
      is_item = item_behind (bytes ++ more) head (Ok message) behind.0 behind.1 has.few (ap head_of (sym first) ∙ has.alone) (subst (λ bs. Asks bs head (Ok message)) first asked) behind.2;
      due = behind.3 ∙ due;
    }

pub interim_line_stays_due : (bytes more : List ℕ) (item : Item) (rest : List ℕ) → is_interim_due item ≡ true → IsItem bytes item rest → AsksInterim (bytes ++ more)
interim_line_stays_due bytes more item rest due is = by_head (head_of (take max_head_bytes bytes)) refl is
  where
    by_answer : (head : Head) (found : Result Message ℕ) → HasHead bytes head → Asks (take head.size bytes) head found → FollowsHead found (drop head.size bytes) item rest → AsksInterim (bytes ++ more)
    by_answer head (Err status) has asked follows = no_due item (fault status) follows.0 due refl
    by_answer head (Ok message) has asked follows = due_longer bytes more head message has asked (due_message message (drop head.size bytes) item rest due follows)

    by_head : (o : Option Head) → head_of (take max_head_bytes bytes) ≡ o → BeginsWith o bytes item rest → AsksInterim (bytes ++ more)
    by_head None e x = no_due item (headless_item bytes) x.0 due (headless_not_due bytes)
    by_head (Some head) e x = by_answer head x.0 (has_head bytes head e) x.1 x.2

-- the bytes that a message takes

-- behind its head and its body stands the rest, and the bytes before it are the first of them
front_taken : (bytes rest : List ℕ) (n size : ℕ) → 0 < n → n ≤ length bytes → size ≤ length (drop n bytes) → rest ≡ drop size (drop n bytes) → (front : List ℕ) × (0 < length front) × (bytes ≡ front ++ rest)
front_taken bytes rest n size some within enough is =
    let head = take n bytes in
    let body = take size (drop n bytes) in
    let behind : drop n bytes ≡ body ++ rest = sym (take-append-drop size (drop n bytes)) ∙ ap (λ bs. body ++ bs) (sym is) in (
      head ++ body,
      omega (arith, length-append head body, length-take n bytes),
      sym (take-append-drop n bytes) ∙ ap (λ bs. head ++ bs) behind ∙ sym (append_assoc head body rest),
    )

pub message_takes_bytes : (bytes rest : List ℕ) (item : Item) → goes_on item ≡ true → IsItem bytes item rest → (front : List ℕ) × (0 < length front) × (bytes ≡ front ++ rest)
message_takes_bytes bytes rest item goes is = by_head (head_of (take max_head_bytes bytes)) refl is
  where
    by_answer : (head : Head) (found : Result Message ℕ) → 0 < head.size → HasHead bytes head → FollowsHead found (drop head.size bytes) item rest → (front : List ℕ) × (0 < length front) × (bytes ≡ front ++ rest)
    by_answer head (Err status) some has follows = no_clash item (fault status) follows.0 goes refl
    by_answer head (Ok message) some has follows =
        let whole = whole_body message (drop head.size bytes) item rest goes follows in
        front_taken bytes rest head.size message.length some has.within whole.enough whole.rest_is

    by_head : (o : Option Head) → head_of (take max_head_bytes bytes) ≡ o → BeginsWith o bytes item rest → (front : List ℕ) × (0 < length front) × (bytes ≡ front ++ rest)
    by_head None e x = no_clash item (headless_item bytes) x.0 goes (headless_ends bytes)
    by_head (Some head) e x = by_answer head x.0 (ends_within (take max_head_bytes bytes) head e).some (has_head bytes head e) x.2
