-- Where lines are cut: at a line feed, and nowhere in bytes that have none.
use Rattle.std.proofs.Common.{◌≡◌, ℕ, ◌+◌, ◌-◌, ◌<◌, Bool, true, false, List, [], ◌∷◌, ◌++◌, length, take, refl, sym, ap, ◌∙◌, arith, append_assoc, length-append}
use Rattle.std.specs.Prelude.{All}
use Rattle.std.specs.List.{slice_split}
use Rattle.std.proofs.lemmas.Bool.{eqb-true}
use Rattle.std.proofs.lemmas.List.{append-nil}
use Rattle.std.proofs.lemmas.List.Elements.{All-nil, All-cons, All-head, All-tail}
use Rattle.std.proofs.lemmas.List.Splits.{slice_split_none, slice_split_at, length-slice_split}
use Rattle.std.proofs.lemmas.List.Sums.{sum_by-cons}
use Rattle.std.proofs.Math.Seq.{take-append-add}
use Rattle.ob_http.specs.Lines.{ends_line, ended_lines, size_with_feeds}
use Rattle.ob_http.specs.SoFar.{IsOpen, lines_with_feeds}

-- the parts of bytes that begin with whole lines
pub split_whole : (lines : List (List ℕ)) (rest : List ℕ) → All IsOpen lines → slice_split ends_line (lines_with_feeds lines ++ rest) ≡ lines ++ slice_split ends_line rest
split_whole [] rest no_feed = refl
split_whole (line ∷ lines) rest no_feed =
    ap (slice_split ends_line) (append_assoc line (10 ∷ lines_with_feeds lines) rest)
    ∙ slice_split_at ends_line line 10 (lines_with_feeds lines ++ rest) (All-head IsOpen line lines no_feed) refl
    ∙ ap (λ ls. line ∷ ls) (split_whole lines rest (All-tail IsOpen line lines no_feed))

without_last_part : (lines parts : List (List ℕ)) → 0 < length parts → take (length (lines ++ parts) - 1) (lines ++ parts) ≡ lines ++ take (length parts - 1) parts
without_last_part lines parts some =
    let count : length (lines ++ parts) - 1 ≡ length lines + (length parts - 1) = omega (arith, length-append lines parts) in
    ap (λ n. take n (lines ++ parts)) count ∙ take-append-add lines parts (length parts - 1)

-- whole lines come before the ended lines of what follows
pub ended_more : (lines : List (List ℕ)) (rest : List ℕ) → All IsOpen lines → ended_lines (lines_with_feeds lines ++ rest) ≡ lines ++ ended_lines rest
ended_more lines rest no_feed =
    let parts = slice_split ends_line rest in
    ap (λ (ps : List (List ℕ)). take (length ps - 1) ps) (split_whole lines rest no_feed)
    ∙ without_last_part lines parts (omega (arith, length-slice_split ends_line rest))

-- bytes without a line feed end no line
pub ended_none : (rest : List ℕ) → IsOpen rest → ended_lines rest ≡ []
ended_none rest no_feed = ap (λ (ps : List (List ℕ)). take (length ps - 1) ps) (slice_split_none ends_line rest no_feed)

pub ended_whole : (lines : List (List ℕ)) (rest : List ℕ) → All IsOpen lines → IsOpen rest → ended_lines (lines_with_feeds lines ++ rest) ≡ lines
ended_whole lines rest no_feed open_rest =
    ended_more lines rest no_feed ∙ ap (λ ls. lines ++ ls) (ended_none rest open_rest) ∙ append-nil lines

pub lines_with_feeds-append : (lines more : List (List ℕ)) → lines_with_feeds (lines ++ more) ≡ lines_with_feeds lines ++ lines_with_feeds more
lines_with_feeds-append [] more = refl
lines_with_feeds-append (line ∷ lines) more =
    ap (λ bytes. line ++ 10 ∷ bytes) (lines_with_feeds-append lines more) ∙ sym (append_assoc line (10 ∷ lines_with_feeds lines) (lines_with_feeds more))

pub length-lines_with_feeds : (lines : List (List ℕ)) → length (lines_with_feeds lines) ≡ size_with_feeds lines
length-lines_with_feeds [] = refl
length-lines_with_feeds (line ∷ lines) =
    omega (arith, length-append line (10 ∷ lines_with_feeds lines), length-lines_with_feeds lines, sum_by-cons (λ l. length l + 1) line lines)

-- bytes as whole lines, and a rest without a line feed
pub record Cut (bytes : List ℕ) : Type 0 where
  pub lines : List (List ℕ)
  pub rest : List ℕ
  pub bytes_are : bytes ≡ lines_with_feeds lines ++ rest
  pub lines_open : All IsOpen lines
  pub rest_open : IsOpen rest

cut_byte : (byte : ℕ) (bytes : List ℕ) (ends : Bool) (lines : List (List ℕ)) (rest : List ℕ) → ends_line byte ≡ ends → bytes ≡ lines_with_feeds lines ++ rest → All IsOpen lines → IsOpen rest → Cut (byte ∷ bytes)
cut_byte byte bytes true lines rest is whole no_feed open_rest = record {
  lines = [] ∷ lines;
  rest = rest;
  bytes_are = ap (λ b. b ∷ bytes) (eqb-true byte 10 is) ∙ ap (λ bs. 10 ∷ bs) whole;
  lines_open = All-cons IsOpen [] lines (All-nil (λ b. ends_line b ≡ false)) no_feed;
  rest_open = open_rest;
}
cut_byte byte bytes false [] rest is whole no_feed open_rest = record {
  lines = [];
  rest = byte ∷ rest;
  bytes_are = ap (λ bs. byte ∷ bs) whole;
  lines_open = no_feed;
  rest_open = All-cons (λ b. ends_line b ≡ false) byte rest is open_rest;
}
cut_byte byte bytes false (line ∷ lines) rest is whole no_feed open_rest = record {
  lines = (byte ∷ line) ∷ lines;
  rest = rest;
  bytes_are = ap (λ bs. byte ∷ bs) whole;
  lines_open = All-cons IsOpen (byte ∷ line) lines (All-cons (λ b. ends_line b ≡ false) byte line is (All-head IsOpen line lines no_feed)) (All-tail IsOpen line lines no_feed);
  rest_open = open_rest;
}

-- all bytes are so
pub cut_of : (bytes : List ℕ) → Cut bytes
cut_of [] = record { lines = []; rest = []; bytes_are = refl; lines_open = All-nil IsOpen; rest_open = All-nil (λ b. ends_line b ≡ false) }
cut_of (byte ∷ bytes) = let cut = cut_of bytes in cut_byte byte bytes (ends_line byte) cut.lines cut.rest refl cut.bytes_are cut.lines_open cut.rest_open

-- more bytes leave the lines that are ended
pub ended_longer : (bytes more : List ℕ) → (later : List (List ℕ)) × (ended_lines (bytes ++ more) ≡ ended_lines bytes ++ later)
ended_longer bytes more =
    let cut = cut_of bytes in
    let whole = lines_with_feeds cut.lines in
    let joined : bytes ++ more ≡ whole ++ (cut.rest ++ more) = ap (λ bs. bs ++ more) cut.bytes_are ∙ append_assoc whole cut.rest more in
    let alone : ended_lines bytes ≡ cut.lines = ap ended_lines cut.bytes_are ∙ ended_whole cut.lines cut.rest cut.lines_open cut.rest_open in
    (ended_lines (cut.rest ++ more), ap ended_lines joined ∙ ended_more cut.lines (cut.rest ++ more) cut.lines_open ∙ ap (λ ls. ls ++ ended_lines (cut.rest ++ more)) (sym alone))
