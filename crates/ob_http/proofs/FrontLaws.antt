-- What reading the front of a connection ahead comes to, over plain values.
use Rattle.std.proofs.Common.{◌≡◌, ℕ, ◌<◌, ◌≤◌, Bool, true, false, cond, List, [], ◌++◌, length, refl, sym, ap, ◌∙◌, subst, arith, append_assoc, inl, inr, Option, None, Result, Ok, Err, IfOk}
use Rattle.std.specs.Prelude.{nat_lt, ◌↔◌}
use Rattle.std.proofs.lemmas.Bool.{ltb-false, cases_lt, iff_false}
use Rattle.std.proofs.lemmas.List.{append-nil, nil_from_length}
use Rattle.ob_base.specs.Limits.{max_head_bytes}
use Rattle.ob_http.specs.Lines.{are_empty_lines}
use Rattle.ob_http.specs.Head.{head_of}
use Rattle.ob_http.specs.Connection.{Connection, ReadsOn}
use Rattle.ob_http.specs.Front.{EndsBefore, IsFrontRead, Fills, ReadsFront}
use Rattle.ob_http.specs.SoFar.{IsSoFar}
use Rattle.ob_http.specs.declared.lines.LinesSoFar.{LinesSoFar}
use Rattle.ob_http.specs.declared.lines.Front.{Front}
use Rattle.ob_http.specs.declared.lines.Front.TheVariants as front
use Rattle.ob_http.specs.declared.inlet.HttpFault.{HttpFault}
use Rattle.ob_http.specs.declared.inlet.HttpFault.TheVariants as fault
use Rattle.ob_http.proofs.ReadingOn.{reads_both}

-- what the search for a head says of the bytes that it was given holds of what is held
pub searched_held : {bytes held : List ℕ} {s : LinesSoFar} → bytes ≡ held → IsSoFar bytes s × (s.searched ≡ length bytes) × (head_of bytes ≡ None) → IsSoFar held s × (s.searched ≡ length held) × (head_of held ≡ None)
searched_held {bytes} {held} {s} same found = subst (λ bs. IsSoFar bs s × (s.searched ≡ length bs) × (head_of bs ≡ None)) same found

-- there is room where the test says so
pub room_left : {full : Bool} {size : ℕ} → (full ≡ true) ↔ (max_head_bytes ≤ size) → full ≡ false → size < max_head_bytes
room_left {full} {size} tells none = elim (cases_lt size max_head_bytes) [ inl less ↦ less | inr past ↦ absurd (iff_false tells none past) ]

-- a read that gave nothing

nothing_came : (part : List ℕ) (more : Bool) → more ≡ nat_lt 0 (length part) → more ≡ false → part ≡ []
nothing_came part more is none = nil_from_length part (let none_left : length part ≤ 0 = ltb-false 0 (length part) (sym is ∙ none) in omega arith)

pub same_bytes : {mid now : Connection} {more : Bool} → Fills mid now (Ok more) → more ≡ false → now.ahead.bytes ≡ mid.ahead.bytes
same_bytes {mid} {now} {more} fills none = fills.some.0 ∙ ap (λ part. mid.ahead.bytes ++ part) (nothing_came fills.part more fills.some.1 none) ∙ append-nil mid.ahead.bytes

pub bytes_joined : (start part : List ℕ) {mid now : Connection} {more : Bool} → mid.ahead.bytes ≡ start ++ part → (fills : Fills mid now (Ok more)) → now.ahead.bytes ≡ start ++ (part ++ fills.part)
bytes_joined start part {mid} {now} {more} bytes fills = fills.some.0 ∙ ap (λ bs. bs ++ fills.part) bytes ∙ append_assoc start part fills.part

-- the connection ended

ended_front : (bytes : List ℕ) (left : Option (List ℕ)) (empty : Bool) → are_empty_lines bytes ≡ empty → EndsBefore bytes left → IsFrontRead bytes left (cond empty front.Empty front.Part)
ended_front bytes left true is ends = (ends, is)
ended_front bytes left false is ends = (ends, is)

pub front_ends : {before mid now : Connection} {part : List ℕ} {more : Bool} (found : Front) → ReadsOn before mid part → mid.ahead.bytes ≡ before.ahead.bytes ++ part
    → head_of mid.ahead.bytes ≡ None → length mid.ahead.bytes < max_head_bytes
    → Fills mid now (Ok more) → more ≡ false → found ≡ cond (are_empty_lines now.ahead.bytes) front.Empty front.Part → ReadsFront before now (Ok found)
front_ends {before} {mid} {now} {part} {more} found reads bytes none few fills ended found_is =
    let same = same_bytes fills ended in
    let ends : EndsBefore now.ahead.bytes now.left = record { no_head = ap head_of same ∙ none; few = omega (arith, few, ap length same); ended = fills.ended (ap Ok ended) } in record {
      part = part ++ fills.part;
      reads = reads_both part fills.part reads fills.reads;
      front = (bytes_joined before.ahead.bytes part bytes fills, subst (IsFrontRead now.ahead.bytes now.left) (sym found_is) (ended_front now.ahead.bytes now.left (are_empty_lines now.ahead.bytes) refl ends));
      failed = λ is. absurd (cc);
    }

-- a read failed

pub front_stops : {before mid now : Connection} {part : List ℕ} (why : HttpFault) (result : Result Front HttpFault) → ReadsOn before mid part → mid.ahead.bytes ≡ before.ahead.bytes ++ part → head_of mid.ahead.bytes ≡ None
    → length mid.ahead.bytes < max_head_bytes → Fills mid now (Err why) → result ≡ Err why → ReadsFront before now result
front_stops {before} {mid} {now} {part} why result reads bytes none few fills is = record {
  part = part ++ fills.part;
  reads = reads_both part fills.part reads fills.reads;
  front = subst (λ (r : Result Front HttpFault). IfOk r (λ found. (now.ahead.bytes ≡ before.ahead.bytes ++ (part ++ fills.part)) × IsFrontRead now.ahead.bytes now.left found)) (sym is) tt;
  failed = λ failed.
      let why_is : why ≡ fault.Failed = same_fault why fault.Failed (sym is ∙ failed) in
      let bytes_are : before.ahead.bytes ++ (part ++ fills.part) ≡ mid.ahead.bytes = ap (λ p. before.ahead.bytes ++ (part ++ p)) (fills.failed (ap Err why_is)) ∙ ap (λ p. before.ahead.bytes ++ p) (append-nil part) ∙ sym bytes in
      (ap head_of bytes_are ∙ none, omega (arith, few, ap length bytes_are));
}
  where
    same_fault : (a b : HttpFault) → (let left : Result Front HttpFault = Err a in let right : Result Front HttpFault = Err b in left ≡ right) → a ≡ b
    same_fault a b e = cc

-- by what the front is
pub front_is : {before now : Connection} {found : Front} (what : Front) → found ≡ what → ReadsFront before now (Ok found) → ReadsFront before now (Ok what)
front_is {before} {now} {found} what is reads = subst (λ (f : Front). ReadsFront before now (Ok f)) is reads
