-- What a connection shows once a head has come.
use Rattle.std.proofs.Common.{◌≡◌, ℕ, ◌<◌, ◌≤◌, Bool, true, false, List, [], ◌++◌, length, take, drop, refl, sym, ap, ◌∙◌, subst, arith, inl, inr, append_assoc, length-append, Option, Some, option_map, Result, Ok, Err}
use Rattle.std.specs.Prelude.{◌⊎◌, IfSome, if◌then◌else◌}
use Rattle.std.proofs.lemmas.List.{append-nil, take-append-le, drop-append-le}
use Rattle.ob_base.specs.Limits.{max_head_bytes}
use Rattle.ob_http.specs.Head.{Head, head_of, Asks}
use Rattle.ob_http.specs.Item.{post, fault, cut, IsItem, TellsItem}
use Rattle.ob_http.specs.Reply.{interim_bytes}
use Rattle.ob_http.specs.Written.{Wrote, WrotePart}
use Rattle.ob_http.specs.Connection.{ReadAhead, Connection, connection_of, coming_bytes, more_taken, Sent, ReadsOn, Receives, FailsReading, FailsWriting, AsksInterim, WritesInterim}
use Rattle.ob_http.specs.Front.{BeginsWithHead}
use Rattle.ob_http.specs.declared.inlet.Inlet.{Inlet}
use Rattle.ob_http.specs.declared.inlet.Inlet.TheVariants as inlet
use Rattle.ob_http.specs.declared.lines.HeadSize.{HeadSize}
use Rattle.ob_http.specs.declared.head.Message.{Message}
use Rattle.ob_http.proofs.ConnectionLaws.{if_coming, told_coming, receives_end}
use Rattle.ob_http.proofs.ItemLaws.{with_head, body_follows, cut_follows, due_item}

-- the head isn't served
pub receives_fault : (before now : Connection) {size : HeadSize} (begins : BeginsWithHead before.ahead.bytes size) → length before.ahead.bytes ≤ max_head_bytes → (status : ℕ)
    → Asks (take size.size before.ahead.bytes) begins.head (Err status)
    → now.written ≡ before.written → IfSome (coming_bytes before) (λ bytes. Receives before now bytes (inlet.Bad status))
receives_fault before now {size} begins few status asked same =
    if_coming (coming_bytes before) _ (λ bytes is.
    let told = told_coming before.ahead.bytes before.left bytes is in
    receives_end bytes (fault status) (inlet.Bad status)
    (subst (λ bs. IsItem bs (fault status) []) (sym told.2) (with_head told.0 begins few (Err status) asked (fault status) [] (refl, refl))) refl refl refl same)

-- The message's body was taken: `mid` is the connection behind the head, after the interim line.
pub record BehindHead (before mid : Connection) (size : HeadSize) (interim : Bool) : Type 0 where
  pub bytes : mid.ahead.bytes ≡ drop size.size before.ahead.bytes
  pub left : mid.left ≡ before.left
  pub taken : mid.ahead.taken ≡ before.ahead.taken
  pub written : Wrote before.written mid.written (if interim then interim_bytes else [])

pub behind_head : {held ahead : ReadAhead} {left left' : Option (List ℕ)} {written written' : Option (List (List ℕ))} (size : HeadSize) (interim : Bool) → ahead ≡ record held { bytes = drop size.size held.bytes } → left' ≡ left
    → Wrote written written' (if interim then interim_bytes else []) → BehindHead (connection_of held left written) (connection_of ahead left' written') size interim
behind_head size interim passed left written = record {
  bytes = ap (λ (a : ReadAhead). a.bytes) passed;
  left = left;
  taken = ap (λ (a : ReadAhead). a.taken) passed;
  written = written;
}

-- what stands behind the head, by what was read on
behind : {before mid now : Connection} {size : HeadSize} {interim : Bool} {part : List ℕ} (bytes : List ℕ) → BehindHead before mid size interim → ReadsOn mid now part → coming_bytes before ≡ Some bytes
    → (left : List ℕ) × (now.left ≡ Some left) × (bytes ≡ before.ahead.bytes ++ (part ++ left))
behind {before} {mid} {now} {size} {interim} {part} bytes h reads is =
    let told = told_coming before.ahead.bytes before.left bytes is in
    let rest = told_coming part now.left told.0 (sym reads.sent.left ∙ h.left ∙ told.1) in
    (rest.0, rest.1, told.2 ∙ ap (λ bs. before.ahead.bytes ++ bs) rest.2)

written_on : {before mid now : Connection} {size : HeadSize} {interim : Bool} {part : List ℕ} → BehindHead before mid size interim → ReadsOn mid now part → Wrote before.written now.written (if interim then interim_bytes else [])
written_on {before} {mid} {now} {size} {interim} h reads = subst (λ w. Wrote before.written w (if interim then interim_bytes else [])) (sym reads.written) h.written

pub sent_behind : {before mid now : Connection} {size : HeadSize} {interim : Bool} {part : List ℕ} → BehindHead before mid size interim → ReadsOn mid now part → Sent before now part
sent_behind {before} {mid} {now} {size} {interim} {part} h reads = record {
  left = sym h.left ∙ reads.sent.left;
  taken = reads.sent.taken ∙ ap (λ t. more_taken t (length part)) h.taken;
}

-- what a head asks for, in the bytes that are held
pub asked_held : {bytes held : List ℕ} (found : Result Message ℕ) (n : ℕ) → bytes ≡ held → ((whole : Head) → head_of (take n bytes) ≡ Some whole → Asks (take n bytes) whole found) → (head : Head)
    → head_of (take n held) ≡ Some head → Asks (take n held) head found
asked_held {bytes} {held} found n same asked = subst (λ bs. (head : Head) → head_of (take n bs) ≡ Some head → Asks (take n bs) head found) same asked

-- too few bytes behind the head
cut_behind : (before mid : Connection) {size : HeadSize} (part : List ℕ) (message : Message) (begins : BeginsWithHead before.ahead.bytes size) → length before.ahead.bytes ≤ max_head_bytes
    → Asks (take size.size before.ahead.bytes) begins.head (Ok message) → BehindHead before mid size message.interim → length (mid.ahead.bytes ++ part) < message.length → IsItem (before.ahead.bytes ++ part) (cut message.interim) []
cut_behind before mid {size} part message begins few asked h short =
    with_head part begins few (Ok message) asked (cut message.interim) [] (cut_follows message (drop size.size before.ahead.bytes ++ part) (omega (arith, ap (λ bs. length (bs ++ part)) h.bytes)))

pub receives_body : (before mid now : Connection) {size : HeadSize} {part : List ℕ} (message : Message) (told : Inlet) (body : List ℕ) (begins : BeginsWithHead before.ahead.bytes size) → length before.ahead.bytes ≤ max_head_bytes
    → Asks (take size.size before.ahead.bytes) begins.head (Ok message) → BehindHead before mid size message.interim → ReadsOn mid now part
    → (message.length ≤ length (mid.ahead.bytes ++ part)) × (body ≡ take message.length (mid.ahead.bytes ++ part)) × (now.ahead.bytes ≡ drop message.length (mid.ahead.bytes ++ part))
    → ((found : List ℕ) → body ≡ found → TellsItem told (post found message.keep message.interim)) → IfSome (coming_bytes before) (λ bytes. Receives before now bytes told)
receives_body before mid now {size} {part} message told body begins few asked h reads came tells =
    if_coming (coming_bytes before) _ (λ bytes is.
    let b = behind bytes h reads is in
    let left = b.0 in
    let here = mid.ahead.bytes ++ part in
    let after = drop size.size before.ahead.bytes ++ (part ++ left) in
    let after_is : after ≡ here ++ left = ap (λ bs. bs ++ (part ++ left)) (sym h.bytes) ∙ sym (append_assoc mid.ahead.bytes part left) in
    let n = message.length in
    let front : take n after ≡ body = ap (take n) after_is ∙ take-append-le n here left came.0 ∙ sym came.1 in
    let rest : drop n after ≡ now.ahead.bytes ++ left = ap (drop n) after_is ∙ drop-append-le n here left came.0 ∙ ap (λ bs. bs ++ left) (sym came.2) in
    let enough : n ≤ length after = omega (arith, came.0, ap length after_is, length-append here left) in
    record {
      item = post (take n after) message.keep message.interim;
      rest = drop n after;
      is_item = subst (λ bs. IsItem bs (post (take n after) message.keep message.interim) (drop n after)) (sym b.2) (with_head (part ++ left) begins few (Ok message) asked _ _ (body_follows message after enough));
      told = tells (take n after) (sym front);
      interim = written_on h reads;
      rest_comes = λ goes. ap (option_map (λ bs. now.ahead.bytes ++ bs)) b.1 ∙ ap Some (sym rest);
    })

-- the connection ended before its end
pub receives_cut : (before mid now : Connection) {size : HeadSize} {part : List ℕ} (message : Message) (begins : BeginsWithHead before.ahead.bytes size) → length before.ahead.bytes ≤ max_head_bytes
    → Asks (take size.size before.ahead.bytes) begins.head (Ok message) → BehindHead before mid size message.interim → ReadsOn mid now part
    → (length (mid.ahead.bytes ++ part) < message.length) × IfSome now.left (λ rest. rest ≡ [])
    → IfSome (coming_bytes before) (λ bytes. Receives before now bytes inlet.Cut)
receives_cut before mid now {size} {part} message begins few asked h reads came =
    if_coming (coming_bytes before) _ (λ bytes is.
    let b = behind bytes h reads is in
    let none : b.0 ≡ [] = subst (λ o. IfSome o (λ rest. rest ≡ [])) b.1 came.1 in
    let bytes_are : bytes ≡ before.ahead.bytes ++ part = b.2 ∙ ap (λ rest. before.ahead.bytes ++ (part ++ rest)) none ∙ ap (λ p. before.ahead.bytes ++ p) (append-nil part) in
    record {
      item = cut message.interim;
      rest = [];
      is_item = subst (λ bs. IsItem bs (cut message.interim) []) (sym bytes_are) (cut_behind before mid part message begins few asked h came.0);
      told = tt;
      interim = written_on h reads;
      rest_comes = λ goes. absurd (cc);
    })

-- a read failed before its end
pub stops_in_body : (before mid now : Connection) {size : HeadSize} {part : List ℕ} (message : Message) (begins : BeginsWithHead before.ahead.bytes size) → length before.ahead.bytes ≤ max_head_bytes
    → Asks (take size.size before.ahead.bytes) begins.head (Ok message) → BehindHead before mid size message.interim → ReadsOn mid now part → length (mid.ahead.bytes ++ part) < message.length
    → IfSome (coming_bytes before) (λ bytes. FailsReading before now part ⊎ FailsWriting before now bytes)
stops_in_body before mid now {size} {part} message begins few asked h reads short =
    if_coming (coming_bytes before) _ (λ bytes is. inl (record {
      item = cut message.interim;
      is_item = cut_behind before mid part message begins few asked h short;
      no_message = refl;
      interim = written_on h reads;
    }))

-- the interim line is due, as the head tells
due_behind : (before : Connection) {size : HeadSize} (message : Message) (begins : BeginsWithHead before.ahead.bytes size) → length before.ahead.bytes ≤ max_head_bytes
    → Asks (take size.size before.ahead.bytes) begins.head (Ok message) → message.interim ≡ true → (bytes : List ℕ) → coming_bytes before ≡ Some bytes → AsksInterim bytes
due_behind before {size} message begins few asked due bytes is =
    let told = told_coming before.ahead.bytes before.left bytes is in
    let item = due_item message (drop size.size before.ahead.bytes ++ told.0) in record {
      item = item.0;
      rest = item.1;
      is_item = subst (λ bs. IsItem bs item.0 item.1) (sym told.2) (with_head told.0 begins few (Ok message) asked item.0 item.1 item.2);
      due = item.3 ∙ due;
    }

-- the interim line was due, and writing it failed
pub stops_in_interim : (before now : Connection) {size : HeadSize} (part : List ℕ) (message : Message) (begins : BeginsWithHead before.ahead.bytes size) → length before.ahead.bytes ≤ max_head_bytes
    → Asks (take size.size before.ahead.bytes) begins.head (Ok message) → message.interim ≡ true → WrotePart before.written now.written interim_bytes
    → IfSome (coming_bytes before) (λ bytes. FailsReading before now part ⊎ FailsWriting before now bytes)
stops_in_interim before now {size} part message begins few asked due wrote =
    if_coming (coming_bytes before) _ (λ bytes is.
    let asks = due_behind before message begins few asked due bytes is in
    inr (record {
      item = asks.item;
      rest = asks.rest;
      is_item = asks.is_item;
      due = asks.due;
      written = wrote;
    }))

-- memory was wanting behind the head
pub wanting_in_body : (before mid now : Connection) {size : HeadSize} {part : List ℕ} (message : Message) (begins : BeginsWithHead before.ahead.bytes size) → length before.ahead.bytes ≤ max_head_bytes
    → Asks (take size.size before.ahead.bytes) begins.head (Ok message) → BehindHead before mid size message.interim → ReadsOn mid now part → Wrote before.written now.written [] ⊎ WritesInterim before now
wanting_in_body before mid now {size} {part} message begins few asked h reads = where_due message.interim refl (written_on h reads)
  where
    where_due : (due : Bool) → message.interim ≡ due → Wrote before.written now.written (if due then interim_bytes else []) → Wrote before.written now.written [] ⊎ WritesInterim before now
    where_due true is wrote = inr (record { written = wrote; due = if_coming (coming_bytes before) _ (λ bytes comes. due_behind before message begins few asked is bytes comes) })
    where_due false is wrote = inl wrote
