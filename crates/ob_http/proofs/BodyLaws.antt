-- What reading a body on comes to, over plain values.
use Rattle.std.proofs.Common.{◌≡◌, ℕ, ◌+◌, ◌<◌, ◌≤◌, List, ◌++◌, length, take, drop, min, sym, ap, ◌∙◌, arith, append_assoc, length-append, Option, Some, None, option_map}
use Rattle.std.specs.Prelude.{IfSome}
use Rattle.std.proofs.lemmas.List.{take_all, take-append-drop, drop_all, take-take, take-append-le, length-take-le, length-drop}
use Rattle.std.proofs.Math.Seq.{take-append-add}
use Rattle.ob_io.specs.Bytes.{Reads}
use Rattle.ob_http.specs.Connection.{connection_of, ReadsOn, more_taken}

-- the room of a body after a write into what follows the first so many
abbrev pub written_room : (items old room post : List ℕ) → (filled len : ℕ) → List ℕ
written_room items old room post filled len = take len (take filled items ++ (room ++ post) ++ drop (length (take filled items ++ (room ++ post))) old)

pub length-written_room : (items old room post : List ℕ) (filled len : ℕ) → len ≡ length items → length old ≡ length items → length (written_room items old room post filled len) ≡ length old
length-written_room items old room post filled len is same =
    let front = take filled items ++ (room ++ post) in
    length-take-le len (front ++ drop (length front) old) (omega (arith, is, same, length-append front (drop (length front) old), length-drop (length front) old)) ∙ is ∙ sym same

-- its front goes on by what was read
pub front-written_room : (items old room post : List ℕ) (filled len n : ℕ) → len ≡ length items → filled + n ≤ len → n ≤ length room
    → take (filled + n) (written_room items old room post filled len) ≡ take filled items ++ take n room
front-written_room items old room post filled len n is fits given =
    let front = take filled items in
    let count : length front ≡ filled = length-take-le filled items (omega arith) in
    let tail = drop (length (front ++ (room ++ post))) old in
    take-take (filled + n) len (front ++ (room ++ post) ++ tail) fits
    ∙ ap (λ bs. take (filled + n) bs) (append_assoc front (room ++ post) tail ∙ ap (λ bs. front ++ bs) (append_assoc room post tail))
    ∙ ap (λ k. take (k + n) (front ++ (room ++ (post ++ tail)))) (sym count)
    ∙ take-append-add front (room ++ (post ++ tail)) n
    ∙ ap (λ bs. front ++ bs) (take-append-le n room (post ++ tail) given)

-- what a read gives is a part of what is left

left_after : (before now : Option (List ℕ)) (n : ℕ) (part : List ℕ) → IfSome before (λ left. (n ≤ length left) × (part ≡ take n left)) → now ≡ option_map (drop n) before
    → before ≡ option_map (λ left. part ++ left) now
left_after None now n part bytes rest = ap (option_map (λ left. part ++ left)) (sym rest)
left_after (Some left) now n part bytes rest =
    ap Some (sym (take-append-drop n left) ∙ ap (λ p. p ++ drop n left) (sym bytes.1)) ∙ ap (option_map (λ l. part ++ l)) (sym rest)

pub reads_part : {before now : Option (List ℕ)} {room_before room_now : List ℕ} {n : ℕ} (written written' : Option (List (List ℕ))) (bytes bytes' : List ℕ) (taken taken' : ℕ)
    → Reads before now room_before room_now n → length room_now ≡ length room_before
    → written' ≡ written → taken' ≡ more_taken taken n
    → ReadsOn (connection_of (record { bytes = bytes; taken = taken }) before written) (connection_of (record { bytes = bytes'; taken = taken' }) now written') (take n room_now)
reads_part {before} {now} {room_before} {room_now} {n} written written' bytes bytes' taken taken' reads room same counted = record {
  sent = record {
    left = left_after before now n (take n room_now) reads.bytes reads.rest;
    taken = counted ∙ ap (more_taken taken) (sym (length-take-le n room_now (omega (arith, reads.fits, room))));
  };
  written = same;
}

-- the body grows by a part where it isn't full

pub filled_more : (size n : ℕ) (held part room : List ℕ) (filled : ℕ) → filled ≡ min size (length (held ++ part)) → filled < size → filled + n ≤ size → n ≤ length room
    → filled + n ≡ min size (length (held ++ (part ++ take n room)))
filled_more size n held part room filled is open_room fits given =
    omega (arith, length-append held part, length-append held (part ++ take n room), length-append part (take n room), length-take-le n room given)

pub front_more : (size n : ℕ) (held part room items : List ℕ) (filled : ℕ) → filled ≡ min size (length (held ++ part)) → filled < size → filled + n ≤ size → n ≤ length room → items ≡ take size (held ++ part)
    → items ++ take n room ≡ take size (held ++ (part ++ take n room))
front_more size n held part room items filled is open_room fits given front =
    let whole : take size (held ++ part) ≡ held ++ part = take_all size (held ++ part) (omega arith) in
    let more : length (held ++ (part ++ take n room)) ≤ size = omega (arith, length-append held part, length-append held (part ++ take n room), length-append part (take n room), length-take-le n room given) in
    ap (λ bs. bs ++ take n room) (front ∙ whole) ∙ append_assoc held part (take n room) ∙ sym (take_all size (held ++ (part ++ take n room)) more)

pub rest_more : (size n : ℕ) (held part room rest : List ℕ) (filled : ℕ) → filled ≡ min size (length (held ++ part)) → filled < size → filled + n ≤ size → n ≤ length room
    → rest ≡ drop size (held ++ part) → rest ≡ drop size (held ++ (part ++ take n room))
rest_more size n held part room rest filled is open_room fits given rest_is =
    rest_is ∙ drop_all size (held ++ part) (omega arith)
    ∙ sym (drop_all size (held ++ (part ++ take n room)) (omega (arith, length-append held part, length-append held (part ++ take n room), length-append part (take n room), length-take-le n room given)))
