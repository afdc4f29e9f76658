-- Lines one after the other: one more line, and what each keeps.
use Rattle.std.proofs.Common.{◌≡◌, ℕ, ℤ, ◌+◌, ◌<◌, ◌≤◌, List, length, take, get_or, Some, Bool, true, false, cond, sym, ◌∙◌, ap, subst, inl, inr, arith}
use Rattle.std.specs.Prelude.{slice_get, is_some}
use Rattle.std.specs.List.{find, filter}
use Rattle.std.proofs.lemmas.List.{take_all}
use Rattle.std.proofs.lemmas.List.Sums.{fold_more}
use Rattle.std.proofs.lemmas.Option.{same_Some}
use Rattle.std.proofs.lemmas.Bool.{cases_lt}
use Rattle.wh_quant.specs.declared.quant.Quant.{Quant}
use Rattle.wh_quant.specs.declared.quant.Line.{Line}
use Rattle.wh_quant.specs.Spots.{spot_of, is_at}
use Rattle.ob_base.specs.declared.id.RecId.{RecId}
use Rattle.wh_quant.specs.Moves.{Holdings, with_quant, source_quant, lowered, destination_after, after_taking, after_line, holdings_after}
use Rattle.wh_quant.specs.Moves.{Suffices, FallsShort, OverflowsAt, MovesGoods, AllMove, IsStart, IsMoved, IsShortAt, IsOverflowAt, is_left}

one_more_at_most : (b : Bool) (n : ℕ) → cond b n (n + 1) ≤ n + 1
one_more_at_most true n = omega arith
one_more_at_most false n = omega arith

-- a quant takes one new id at most
pub next-with_quant : (q : Quant) (stock : Holdings) → (with_quant q stock).next ≤ stock.next + 1
next-with_quant q stock = one_more_at_most (is_some (find (is_at (spot_of q)) stock.quants)) stock.next

-- a line takes two at most
pub next-after_line : (now : ℤ) (stock : Holdings) (line : Line) → (after_line now stock line).next ≤ stock.next + 2
next-after_line now stock line =
    let first = next-with_quant (lowered line (source_quant now line stock)) stock in
    let second = next-with_quant (destination_after now line stock) (after_taking now line stock) in
    omega (arith, first, second)

-- one more line
pub holdings_after-more : (now : ℤ) (start stock more : Holdings) (lines : List Line) (n : ℕ) (d : Line) → n < length lines → stock ≡ holdings_after now start (take n lines) →
    more ≡ after_line now stock (get_or lines n d) → more ≡ holdings_after now start (take (n + 1) lines)
holdings_after-more now start stock more lines n d within is moved =
    moved ∙ ap (λ stock. after_line now stock (get_or lines n d)) is ∙ sym (fold_more (after_line now) start lines n d within)

-- the first lines move their goods, and one more does
pub AllMove-more : (now : ℤ) (start : Holdings) (lines : List Line) (n : ℕ) (line : Line) → AllMove now start lines n → slice_get lines n ≡ Some line →
    MovesGoods now line (holdings_after now start (take n lines)) → AllMove now start lines (n + 1)
AllMove-more now start lines n line so_far is moves k other below at =
    elim (cases_lt k n) [
      | inl before ↦ so_far k other before at
      | inr past ↦
          let here : k ≡ n = omega arith in
          let same : line ≡ other = same_Some line other (sym is ∙ rw (sym here) at) in
          rw (here, ← same) moves
    ]

-- a line whose source falls short is the first one that doesn't move its goods
pub short_at : (now m : ℤ) (next : ℕ) (quants : List Quant) (lines : List Line) (start stock : Holdings) (n : ℕ) (line : Line) (q : RecId) → m ≡ now → IsStart quants next start →
    stock ≡ holdings_after m start (take n lines) → AllMove m start lines n → slice_get lines n ≡ Some line → FallsShort line (source_quant m line stock) →
    q ≡ (source_quant m line stock).id → IsShortAt now next quants lines n q
short_at now m next quants lines start stock n line q e starts is so_far at short source =
    let P : ℤ → Type 0 = λ m. stock ≡ holdings_after m start (take n lines) → AllMove m start lines n → FallsShort line (source_quant m line stock) →
    q ≡ (source_quant m line stock).id → IsShortAt now next quants lines n q in
    subst P (sym e) (λ is so_far short source. record {
      start = start;
      starts = starts;
      before = so_far;
      line = line;
      is = at;
      short = rw (sym is) short;
      source = rw (sym is) source;
    }) is so_far short source

-- and so is one that leads a quant out of 64 bits
pub overflow_at : (now m : ℤ) (next : ℕ) (quants : List Quant) (lines : List Line) (start stock : Holdings) (n : ℕ) (line : Line) (q : RecId) → m ≡ now → IsStart quants next start →
    stock ≡ holdings_after m start (take n lines) → AllMove m start lines n → slice_get lines n ≡ Some line → Suffices line (source_quant m line stock) →
    OverflowsAt m line stock q → IsOverflowAt now next quants lines n q
overflow_at now m next quants lines start stock n line q e starts is so_far at enough over =
    let P : ℤ → Type 0 = λ m. stock ≡ holdings_after m start (take n lines) → AllMove m start lines n → Suffices line (source_quant m line stock) →
    OverflowsAt m line stock q → IsOverflowAt now next quants lines n q in
    subst P (sym e) (λ is so_far enough over. record {
      start = start;
      starts = starts;
      before = so_far;
      line = line;
      is = at;
      enough = rw (sym is) enough;
      overflows = rw (sym is) over;
    }) is so_far enough over

-- after the last line
pub moved_all : (now m : ℤ) (next : ℕ) (quants : List Quant) (lines : List Line) (start stock : Holdings) (n : ℕ) (moved : List Quant) → m ≡ now → IsStart quants next start →
    stock ≡ holdings_after m start (take n lines) → AllMove m start lines n → n ≡ length lines → moved ≡ filter (is_left lines) stock.quants → IsMoved now next quants lines moved
moved_all now m next quants lines start stock n moved e starts is so_far end left =
    let P : ℤ → Type 0 = λ m. stock ≡ holdings_after m start (take n lines) → AllMove m start lines n → IsMoved now next quants lines moved in
    let whole : take n lines ≡ lines = take_all n lines (omega arith) in
    subst P (sym e) (λ is so_far. record {
      start = start;
      starts = starts;
      each = rw (sym end) so_far;
      left = left ∙ ap (λ (stock : Holdings). filter (is_left lines) stock.quants)
          (is ∙ ap (holdings_after now start) whole);
    }) is so_far
