-- What a connection shows after the front of it was read ahead.
use Rattle.std.proofs.Common.{◌≡◌, ℕ, ◌<◌, ◌≤◌, Bool, true, false, List, [], ◌++◌, length, refl, sym, ap, ◌∙◌, subst, arith, inl, inr, append_assoc, Option, Some, None, option_map, Result, Ok, Err, IfOk}
use Rattle.std.specs.Prelude.{◌⊎◌, IfSome, if◌then◌else◌}
use Rattle.std.proofs.lemmas.List.{append-nil}
use Rattle.ob_base.specs.Limits.{max_head_bytes}
use Rattle.ob_http.specs.Lines.{are_empty_lines}
use Rattle.ob_http.specs.Head.{head_of}
use Rattle.ob_http.specs.Item.{Item, fault, ended, cut, IsItem, TellsItem, goes_on, is_interim_due}
use Rattle.ob_http.specs.Reply.{interim_bytes}
use Rattle.ob_http.specs.Written.{Wrote, WrotePart}
use Rattle.ob_http.specs.Connection.{Connection, coming_bytes, Sent, ReadsOn, Receives, FailsReading, FailsWriting, AsksInterim, WritesInterim}
use Rattle.ob_http.specs.Front.{EndsBefore}
use Rattle.ob_http.specs.declared.inlet.Inlet.{Inlet}
use Rattle.ob_http.specs.declared.inlet.Inlet.TheVariants as inlet
use Rattle.ob_http.specs.declared.inlet.HttpFault.{HttpFault}
use Rattle.ob_http.proofs.WrittenParts.{wrote_nothing}
use Rattle.ob_http.proofs.ItemLaws.{too_long_item, empty_item, part_item, ends_in}

-- what holds at each bytes that are to come holds where they are told
pub if_coming : (o : Option (List ℕ)) (P : List ℕ → Type 0) → ((bytes : List ℕ) → o ≡ Some bytes → P bytes) → IfSome o P
if_coming None P h = tt
if_coming (Some bytes) P h = h bytes refl

-- what is to come is what was read ahead and what is left
pub told_coming : (ahead : List ℕ) (left : Option (List ℕ)) (bytes : List ℕ) → option_map (λ rest. ahead ++ rest) left ≡ Some bytes → (rest : List ℕ) × (left ≡ Some rest) × (bytes ≡ ahead ++ rest)
told_coming ahead None bytes e = absurd (cc)
told_coming ahead (Some rest) bytes e = (rest, refl, cc)

kept_coming : (ahead part : List ℕ) (before now : Option (List ℕ)) → before ≡ option_map (λ left. part ++ left) now → option_map (λ left. ahead ++ left) before ≡ option_map (λ left. (ahead ++ part) ++ left) now
kept_coming ahead part before None sent = ap (option_map (λ left. ahead ++ left)) sent
kept_coming ahead part before (Some left) sent = ap (option_map (λ rest. ahead ++ rest)) sent ∙ ap Some (sym (append_assoc ahead part left))

-- reading ahead leaves what is to come
pub coming_kept : {before mid : Connection} {part : List ℕ} → Sent before mid part → mid.ahead.bytes ≡ before.ahead.bytes ++ part → coming_bytes before ≡ coming_bytes mid
coming_kept {before} {mid} {part} sent bytes =
    kept_coming before.ahead.bytes part before.left mid.left sent.left ∙ ap (λ ahead. option_map (λ left. ahead ++ left) mid.left) (sym bytes)

wrote_none : (before now : Option (List (List ℕ))) (due : Bool) → now ≡ before → due ≡ false → Wrote before now (if due then interim_bytes else [])
wrote_none before now due same none =
    subst (λ b. Wrote before now (if b then interim_bytes else [])) (sym none) (subst (λ w. Wrote before w []) (sym same) (wrote_nothing before))

-- An item after which nothing more comes, and before whose reply no interim line is due.
pub receives_end : {before now : Connection} (bytes : List ℕ) (item : Item) (told : Inlet) → IsItem bytes item [] → TellsItem told item → is_interim_due item ≡ false → goes_on item ≡ false
    → now.written ≡ before.written → Receives before now bytes told
receives_end {before} {now} bytes item told is tells due ends same = record {
  item = item;
  rest = [];
  is_item = is;
  told = tells;
  interim = wrote_none before.written now.written (is_interim_due item) same due;
  rest_comes = λ goes. absurd (cc);
}

pub receives_too_long : {before mid : Connection} {part : List ℕ} → ReadsOn before mid part → mid.ahead.bytes ≡ before.ahead.bytes ++ part → head_of mid.ahead.bytes ≡ None
    → max_head_bytes ≤ length mid.ahead.bytes → length mid.ahead.bytes ≤ max_head_bytes
    → IfSome (coming_bytes before) (λ bytes. Receives before mid bytes (inlet.Bad 431))
receives_too_long {before} {mid} {part} reads bytes_are none long few =
    if_coming (coming_bytes before) _ (λ bytes is.
    let told = told_coming mid.ahead.bytes mid.left bytes (sym (coming_kept reads.sent bytes_are) ∙ is) in
    receives_end bytes (fault 431) (inlet.Bad 431) (subst (λ bs. IsItem bs (fault 431) []) (sym told.2) (too_long_item mid.ahead.bytes told.0 none (omega arith))) refl refl refl reads.written)

ended_bytes : {before mid : Connection} {part : List ℕ} (bytes : List ℕ) → ReadsOn before mid part → mid.ahead.bytes ≡ before.ahead.bytes ++ part → EndsBefore mid.ahead.bytes mid.left
    → coming_bytes before ≡ Some bytes → bytes ≡ mid.ahead.bytes
ended_bytes {before} {mid} {part} bytes reads bytes_are ends is =
    let told = told_coming mid.ahead.bytes mid.left bytes (sym (coming_kept reads.sent bytes_are) ∙ is) in
    let none : told.0 ≡ [] = subst (λ o. IfSome o (λ rest. rest ≡ [])) told.1 ends.ended in
    told.2 ∙ ap (λ rest. mid.ahead.bytes ++ rest) none ∙ append-nil mid.ahead.bytes

pub receives_ended : {before mid : Connection} {part : List ℕ} → ReadsOn before mid part → mid.ahead.bytes ≡ before.ahead.bytes ++ part → EndsBefore mid.ahead.bytes mid.left → are_empty_lines mid.ahead.bytes ≡ true
    → IfSome (coming_bytes before) (λ bytes. Receives before mid bytes inlet.Ended)
receives_ended {before} {mid} {part} reads bytes_are ends empty =
    if_coming (coming_bytes before) _ (λ bytes is.
    let same = ended_bytes bytes reads bytes_are ends is in
    receives_end bytes ended inlet.Ended (subst (λ bs. IsItem bs ended []) (sym same) (empty_item mid.ahead.bytes empty ends.no_head ends.few)) tt refl refl reads.written)

pub receives_part : {before mid : Connection} {part : List ℕ} → ReadsOn before mid part → mid.ahead.bytes ≡ before.ahead.bytes ++ part → EndsBefore mid.ahead.bytes mid.left → are_empty_lines mid.ahead.bytes ≡ false
    → IfSome (coming_bytes before) (λ bytes. Receives before mid bytes inlet.Cut)
receives_part {before} {mid} {part} reads bytes_are ends some =
    if_coming (coming_bytes before) _ (λ bytes is.
    let same = ended_bytes bytes reads bytes_are ends is in
    receives_end bytes (cut false) inlet.Cut (subst (λ bs. IsItem bs (cut false) []) (sym same) (part_item mid.ahead.bytes some ends.no_head ends.few)) tt refl refl reads.written)

-- a read failed before a head had come
pub stops_in_front : {before now : Connection} {part : List ℕ} → ReadsOn before now part → head_of (before.ahead.bytes ++ part) ≡ None → length (before.ahead.bytes ++ part) < max_head_bytes
    → IfSome (coming_bytes before) (λ bytes. FailsReading before now part ⊎ FailsWriting before now bytes)
stops_in_front {before} {now} {part} reads none few =
    let ends = ends_in (before.ahead.bytes ++ part) none few in
    if_coming (coming_bytes before) _ (λ bytes is. inl (record {
      item = ends.item;
      is_item = ends.is_item;
      no_message = ends.no_message;
      interim = wrote_none before.written now.written (is_interim_due ends.item) reads.written ends.not_due;
    }))

-- the front was read ahead, and then an item came in
pub receives_after : {before mid : Connection} {part : List ℕ} (now : Connection) (told : Inlet) → ReadsOn before mid part → mid.ahead.bytes ≡ before.ahead.bytes ++ part
    → IfSome (coming_bytes mid) (λ bytes. Receives mid now bytes told)
    → IfSome (coming_bytes before) (λ bytes. Receives before now bytes told)
receives_after {before} {mid} {part} now told reads bytes_are received =
    if_coming (coming_bytes before) _ (λ bytes is.
    let r : Receives mid now bytes told = subst (λ o. IfSome o (λ bs. Receives mid now bs told)) (sym (coming_kept reads.sent bytes_are) ∙ is) received in record {
      item = r.item;
      rest = r.rest;
      is_item = r.is_item;
      told = r.told;
      interim = subst (λ w. Wrote w now.written (if is_interim_due r.item then interim_bytes else [])) reads.written r.interim;
      rest_comes = r.rest_comes;
    })

pub receives_result : {before mid : Connection} {part : List ℕ} (now : Connection) (r : Result Inlet HttpFault) → ReadsOn before mid part → mid.ahead.bytes ≡ before.ahead.bytes ++ part
    → IfOk r (λ told. IfSome (coming_bytes mid) (λ bytes. Receives mid now bytes told)) → IfOk r (λ told. IfSome (coming_bytes before) (λ bytes. Receives before now bytes told))
receives_result now (Ok told) reads bytes received = receives_after now told reads bytes received
receives_result now (Err why) reads bytes received = tt

-- the front was read ahead, and then a read or a write failed
pub stops_after : {before mid : Connection} {part : List ℕ} (now : Connection) (more : List ℕ) → ReadsOn before mid part → mid.ahead.bytes ≡ before.ahead.bytes ++ part
    → IfSome (coming_bytes mid) (λ bytes. FailsReading mid now more ⊎ FailsWriting mid now bytes)
    → IfSome (coming_bytes before) (λ bytes. FailsReading before now (part ++ more) ⊎ FailsWriting before now bytes)
stops_after {before} {mid} {part} now more reads bytes_are stopped =
    if_coming (coming_bytes before) _ (λ bytes is. either bytes (subst (λ o. IfSome o (λ bs. FailsReading mid now more ⊎ FailsWriting mid now bs)) (sym (coming_kept reads.sent bytes_are) ∙ is) stopped))
  where
    joined : mid.ahead.bytes ++ more ≡ before.ahead.bytes ++ (part ++ more)
    joined = ap (λ bs. bs ++ more) bytes_are ∙ append_assoc before.ahead.bytes part more

    either : (bytes : List ℕ) → FailsReading mid now more ⊎ FailsWriting mid now bytes → FailsReading before now (part ++ more) ⊎ FailsWriting before now bytes
    either bytes (inl s) = inl (record {
      item = s.item;
      is_item = subst (λ bs. IsItem bs s.item []) joined s.is_item;
      no_message = s.no_message;
      interim = subst (λ w. Wrote w now.written (if is_interim_due s.item then interim_bytes else [])) reads.written s.interim;
    })
    either bytes (inr s) = inr (record {
      item = s.item;
      rest = s.rest;
      is_item = s.is_item;
      due = s.due;
      written = subst (λ w. WrotePart w now.written interim_bytes) reads.written s.written;
    })

-- reading writes nothing
pub reads_only : {before now : Connection} {part : List ℕ} → ReadsOn before now part → Wrote before.written now.written []
reads_only {before} {now} reads = wrote_none before.written now.written false reads.written refl

-- the front was read ahead, and then memory was wanting
pub wanting_after : {before mid : Connection} {part : List ℕ} (now : Connection) → ReadsOn before mid part → mid.ahead.bytes ≡ before.ahead.bytes ++ part → Wrote mid.written now.written [] ⊎ WritesInterim mid now
    → Wrote before.written now.written [] ⊎ WritesInterim before now
wanting_after {before} {mid} {part} now reads bytes_are (inl none) = inl (subst (λ w. Wrote w now.written []) reads.written none)
wanting_after {before} {mid} {part} now reads bytes_are (inr wrote) = inr (record {
  written = subst (λ w. Wrote w now.written interim_bytes) reads.written wrote.written;
  due = subst (λ o. IfSome o (λ bytes. AsksInterim bytes)) (sym (coming_kept reads.sent bytes_are)) wrote.due;
})
