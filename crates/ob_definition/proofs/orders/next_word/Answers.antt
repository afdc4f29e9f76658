use Rattle.std.proofs.Common.{◌≡◌, ◌<◌, ◌≤◌, length, drop, arith}
use Rattle.std.specs.List.{prefix_len}
use Rattle.ob_definition.specs.Orders.{is_space_or_tab}
use Rattle.ob_definition.proofs.OrderWords.{is_in_word, take-rest, words-first, words-none, IsCharBoundary-behind_spaces, IsCharBoundary-behind_word}
use Rattle.ob_definition.proofs.orders.next_word.Goals as goal

pub returns-then-start-text : goal.returns-then-start-text
returns-then-start-text c =
    let spaces : c.space_len-start.result ≡ prefix_len is_space_or_tab c.args.text.now = rw c.as_bytes-bytes.ensures.value at c.space_len-start.ensures.len in
    words-none c.args.text.now c.space_len-start.result spaces (omega arith)

pub range-requires-clause-start_boundary : goal.range-requires-clause-start_boundary
range-requires-clause-start_boundary c = λ _.
    let spaces : c.space_len-start.result ≡ prefix_len is_space_or_tab c.args.text.now = rw c.as_bytes-bytes.ensures.value at c.space_len-start.ensures.len in
    IsCharBoundary-behind_spaces c.args.text.now c.space_len-start.result c.utf8.text spaces

pub range-requires-clause-end_boundary : goal.range-requires-clause-end_boundary
range-requires-clause-end_boundary c =
    let text = c.args.text.now in
    let start = c.space_len-start.result in
    let len : c.word_len.result ≡ prefix_len is_in_word (drop start text) = rw (c.as_bytes-bytes.ensures.value, take-rest text start) at c.word_len.ensures.len in
    let within : start ≤ length text = omega (arith, c.as_bytes-bytes.ensures.len) in
    IsCharBoundary-behind_word text start c.word_len.result len within

pub range_from-requires : goal.range_from-requires
range_from-requires c = λ _.
    let text = c.args.text.now in
    let start = c.space_len-start.result in
    let len : c.word_len.result ≡ prefix_len is_in_word (drop start text) = rw (c.as_bytes-bytes.ensures.value, take-rest text start) at c.word_len.ensures.len in
    let within : start ≤ length text = omega (arith, c.as_bytes-bytes.ensures.len) in
    IsCharBoundary-behind_word text start c.word_len.result len within

pub returns : goal.returns
returns c =
    let text = c.args.text.now in
    let start = c.space_len-start.result in
    let spaces : start ≡ prefix_len is_space_or_tab text = rw c.as_bytes-bytes.ensures.value at c.space_len-start.ensures.len in
    let len : c.word_len.result ≡ prefix_len is_in_word (drop start text) = rw (c.as_bytes-bytes.ensures.value, take-rest text start) at c.word_len.ensures.len in
    let inside : start < length text = omega (arith, c.as_bytes-bytes.ensures.len) in
    rw (c.range.ensures.value, c.range_from.ensures.value) (words-first text start c.word_len.result spaces len inside)
