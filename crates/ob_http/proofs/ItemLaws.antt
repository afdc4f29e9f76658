-- What a connection's bytes begin with, by what was read of them.
use Rattle.std.proofs.Common.{◌≡◌, ℕ, ◌<◌, ◌≤◌, Bool, true, false, cond, List, [], ◌++◌, length, take, drop, refl, sym, ap, ◌∙◌, subst, arith, inl, inr, length-append, Option, Some, None, Result, Ok, Err}
use Rattle.std.specs.Prelude.{nat_le, nat_lt, not, ◌&&◌, codes}
use Rattle.std.specs.Str.{bytes_eq}
use Rattle.std.specs.Bool.{MatchBool}
use Rattle.std.proofs.lemmas.Bool.{le-leb, lt-leb, cases_lt}
use Rattle.std.proofs.lemmas.List.{take_all, take_at, take-take, take-append-le, drop-append-le, take-append-drop}
use Rattle.ob_base.specs.Limits.{max_head_bytes, max_head_fields, max_line_bytes}
use Rattle.ob_base.specs.Chain.{◌>>=◌}
use Rattle.httparse.specs.Grammar.{RequestHead}
use Rattle.ob_http.specs.Lines.{are_empty_lines}
use Rattle.ob_http.specs.Head.{Head, head_of, has_other_version, ReadsMessage, Asks}
use Rattle.ob_http.specs.Message.{message_of, or_status, number_or, same_number, values_of, has_header, path_of, keeps_open, expects_interim}
use Rattle.ob_http.specs.Item.{Item, post, fault, ended, cut, headless_item, FollowsHead, BeginsWith, IsItem, is_interim_due, is_end}
use Rattle.ob_http.specs.Reply.{IsFaultStatus}
use Rattle.ob_http.specs.Front.{BeginsWithHead}
use Rattle.ob_http.specs.declared.lines.HeadSize.{HeadSize}
use Rattle.ob_http.specs.declared.head.Message.{Message}
use Rattle.ob_http.proofs.HeadLaws.{head_of_longer}

-- without a head

no_head_item : (bytes : List ℕ) → head_of (take max_head_bytes bytes) ≡ None → IsItem bytes (headless_item bytes) []
no_head_item bytes none = subst (λ o. BeginsWith o bytes (headless_item bytes) []) (sym none) (refl, refl)

-- the first bytes are as many as a head may have
pub too_long_item : (held rest : List ℕ) → head_of held ≡ None → length held ≡ max_head_bytes → IsItem (held ++ rest) (fault 431) []
too_long_item held rest none full =
    let front : take max_head_bytes (held ++ rest) ≡ held = take_at held rest max_head_bytes full in
    let long : nat_le max_head_bytes (length (held ++ rest)) ≡ true = le-leb max_head_bytes (length (held ++ rest)) (omega (arith, length-append held rest)) in
    let item : headless_item (held ++ rest) ≡ fault 431 = ap (λ b. cond b (fault 431) (cond (are_empty_lines (held ++ rest)) ended (cut false))) long in
    subst (λ i. IsItem (held ++ rest) i []) item (no_head_item (held ++ rest) (ap head_of front ∙ none))

-- there are fewer of them, and no more come
short_item : (bytes : List ℕ) (empty : Bool) → are_empty_lines bytes ≡ empty → head_of bytes ≡ None → length bytes < max_head_bytes → IsItem bytes (cond empty ended (cut false)) []
short_item bytes empty is none few =
    let front : take max_head_bytes bytes ≡ bytes = take_all max_head_bytes bytes (omega arith) in
    let short : nat_le max_head_bytes (length bytes) ≡ false = lt-leb max_head_bytes (length bytes) few in
    let item : headless_item bytes ≡ cond empty ended (cut false) = ap (λ b. cond b (fault 431) (cond (are_empty_lines bytes) ended (cut false))) short ∙ ap (λ b. cond b ended (cut false)) is in
    subst (λ i. IsItem bytes i []) item (no_head_item bytes (ap head_of front ∙ none))

pub empty_item : (bytes : List ℕ) → are_empty_lines bytes ≡ true → head_of bytes ≡ None → length bytes < max_head_bytes → IsItem bytes ended []
empty_item bytes is none few = short_item bytes true is none few

pub part_item : (bytes : List ℕ) → are_empty_lines bytes ≡ false → head_of bytes ≡ None → length bytes < max_head_bytes → IsItem bytes (cut false) []
part_item bytes is none few = short_item bytes false is none few

-- an end without a message, before which no interim line is due
pub record EndsIn (bytes : List ℕ) : Type 0 where
  pub item : Item
  pub is_item : IsItem bytes item []
  pub no_message : is_end item ≡ true
  pub not_due : is_interim_due item ≡ false

ends_when : (bytes : List ℕ) (empty : Bool) → are_empty_lines bytes ≡ empty → head_of bytes ≡ None → length bytes < max_head_bytes → EndsIn bytes
ends_when bytes true is none few = record { item = ended; is_item = empty_item bytes is none few; no_message = refl; not_due = refl }
ends_when bytes false is none few = record { item = cut false; is_item = part_item bytes is none few; no_message = refl; not_due = refl }

pub ends_in : (bytes : List ℕ) → head_of bytes ≡ None → length bytes < max_head_bytes → EndsIn bytes
ends_in bytes none few = ends_when bytes (are_empty_lines bytes) refl none few

-- with a head

pub with_head : {held : List ℕ} {size : HeadSize} (rest : List ℕ) (begins : BeginsWithHead held size) → length held ≤ max_head_bytes → (found : Result Message ℕ) → Asks (take size.size held) begins.head found
    → (item : Item) (left : List ℕ) → FollowsHead found (drop size.size held ++ rest) item left → IsItem (held ++ rest) item left
with_head {held} {size} rest begins few found asked item left follows =
    let bytes = held ++ rest in
    let n = size.size in
    let front : take n bytes ≡ take n held = take-append-le n held rest begins.within in
    let within : take n (take max_head_bytes bytes) ≡ take n held = take-take n max_head_bytes bytes (omega (arith, begins.within)) ∙ front in
    let split : take max_head_bytes bytes ≡ take n held ++ drop n (take max_head_bytes bytes) = sym (take-append-drop n (take max_head_bytes bytes)) ∙ ap (λ bs. bs ++ drop n (take max_head_bytes bytes)) within in
    let head : head_of (take max_head_bytes bytes) ≡ Some begins.head = ap head_of split ∙ head_of_longer (take n held) (drop n (take max_head_bytes bytes)) begins.head begins.head_is in
    let same : n ≡ begins.head.size = begins.stands.size in
    subst (λ o. BeginsWith o bytes item left) (sym head) (
      found,
      subst (λ bs. Asks bs begins.head found) (sym front ∙ ap (λ k. take k bytes) same) asked,
      subst (λ bs. FollowsHead found bs item left) (sym (drop-append-le n held rest begins.within) ∙ ap (λ k. drop k bytes) same) follows,
    )

-- a message whose body has come
pub body_follows : (message : Message) (after : List ℕ) → message.length ≤ length after → FollowsHead (Ok message) after (post (take message.length after) message.keep message.interim) (drop message.length after)
body_follows message after enough =
    subst (λ b. MatchBool b ((post (take message.length after) message.keep message.interim ≡ post (take message.length after) message.keep message.interim) × (drop message.length after ≡ drop message.length after))
    ((post (take message.length after) message.keep message.interim ≡ cut message.interim) × (drop message.length after ≡ []))) (sym (le-leb message.length (length after) enough)) (refl, refl)

-- and one whose body hasn't
pub cut_follows : (message : Message) (after : List ℕ) → length after < message.length → FollowsHead (Ok message) after (cut message.interim) []
cut_follows message after few =
    let nothing : List ℕ = [] in
    subst (λ b. MatchBool b ((cut message.interim ≡ post (take message.length after) message.keep message.interim) × (nothing ≡ drop message.length after))
    ((cut message.interim ≡ cut message.interim) × (nothing ≡ []))) (sym (lt-leb message.length (length after) few)) (refl, refl)

-- either way the interim line is due where the message says so
pub due_item : (message : Message) (after : List ℕ) → (item : Item) × (left : List ℕ) × FollowsHead (Ok message) after item left × (is_interim_due item ≡ message.interim)
due_item message after =
    elim (cases_lt (length after) message.length) [
      | inl less ↦ (cut message.interim, [], cut_follows message after less, refl)
      | inr enough ↦ (post (take message.length after) message.keep message.interim, drop message.length after, body_follows message after enough, refl)
    ]

-- the statuses of faults

fault_400 : IsFaultStatus 400
fault_400 = inl refl

fault_404 : IsFaultStatus 404
fault_404 = inr (inl refl)

fault_405 : IsFaultStatus 405
fault_405 = inr (inr (inl refl))

fault_411 : IsFaultStatus 411
fault_411 = inr (inr (inr (inl refl)))

fault_413 : IsFaultStatus 413
fault_413 = inr (inr (inr (inr (inl refl))))

pub fault_431 : IsFaultStatus 431
fault_431 = inr (inr (inr (inr (inr (inl refl)))))

fault_505 : IsFaultStatus 505
fault_505 = inr (inr (inr (inr (inr (inr refl)))))

-- what a chain may end with ends it, or its rest does
fault_here : {B : Type 0} (code status : ℕ) (holds : Bool) (next : Bool → Result B ℕ) → IsFaultStatus code → (next true ≡ Err status → IsFaultStatus status)
    → (or_status code holds >>= next) ≡ Err status → IsFaultStatus status
fault_here code status true next here later is = later is
fault_here code status false next here later is = let same : code ≡ status = cc in subst IsFaultStatus same here

fault_number : {B : Type 0} (code status : ℕ) (number : Option ℕ) (next : ℕ → Result B ℕ) → IsFaultStatus code → ((n : ℕ) → next n ≡ Err status → IsFaultStatus status)
    → (number_or code number >>= next) ≡ Err status → IsFaultStatus status
fault_number code status None next here later is = let same : code ≡ status = cc in subst IsFaultStatus same here
fault_number code status (Some n) next here later is = later n is

no_fault : (message : Message) (status : ℕ) → (let found : Result Message ℕ = Ok message in found ≡ Err status) → IsFaultStatus status
no_fault message status is = absurd (let h : ⊥ = cc in h)

-- the checks of a request, from the last back to the first

abbrev within_check : RequestHead → ℕ → Result Message ℕ
within_check request length = or_status 413 (nat_le length max_line_bytes) >>= (λ _. Ok (record { length = length; keep = keeps_open request; interim = expects_interim request }))

abbrev number_check : RequestHead → Result Message ℕ
number_check request = number_or 400 (same_number (values_of (codes "content-length") request)) >>= within_check request

abbrev has_length : RequestHead → Bool
has_length request = has_header (codes "content-length") request && not (has_header (codes "transfer-encoding") request)

abbrev length_check : RequestHead → Result Message ℕ
length_check request = or_status 411 (has_length request) >>= (λ _. number_check request)

abbrev method_check : RequestHead → Result Message ℕ
method_check request = or_status 405 (bytes_eq request.method (codes "POST")) >>= (λ _. length_check request)

fault_of_message : (request : RequestHead) (status : ℕ) → message_of request ≡ Err status → IsFaultStatus status
unfolding message_of
fault_of_message request status is =
    fault_here {B = Message} 404 status (bytes_eq (path_of request) (codes "/jsonrpc")) (λ _. method_check request) fault_404
    (fault_here {B = Message} 405 status (bytes_eq request.method (codes "POST")) (λ _. length_check request) fault_405
    (fault_here {B = Message} 411 status (has_length request) (λ _. number_check request) fault_411
    (fault_number {B = Message} 400 status (same_number (values_of (codes "content-length") request)) (within_check request) fault_400
    (λ n. fault_here {B = Message} 413 status (nat_le n max_line_bytes) (λ _. Ok (record { length = n; keep = keeps_open request; interim = expects_interim request })) fault_413
    (no_fault (record { length = n; keep = keeps_open request; interim = expects_interim request }) status))))) is

fault_when : (bytes : List ℕ) (head : Head) (status : ℕ) (many other : Bool)
    → (let found : Result Message ℕ = Err status in MatchBool many (found ≡ Err 431) (MatchBool other (found ≡ Err 505) (ReadsMessage bytes found))) → IsFaultStatus status
fault_when bytes head status true other asked = let same : status ≡ 431 = cc in subst IsFaultStatus (sym same) fault_431
fault_when bytes head status false true asked = let same : status ≡ 505 = cc in subst IsFaultStatus (sym same) fault_505
fault_when bytes head status false false (inl read) = fault_of_message read.0 status (sym read.2)
fault_when bytes head status false false (inr nothing) = let e = nothing.1 in let same : status ≡ 400 = cc in subst IsFaultStatus (sym same) fault_400

-- a head that isn't served has the status of a fault
pub fault_of_asks : (bytes : List ℕ) (head : Head) (status : ℕ) → Asks bytes head (Err status) → IsFaultStatus status
fault_of_asks bytes head status asked = fault_when bytes head status (nat_lt max_head_fields head.fields) (has_other_version head.line) asked
