use Rattle.std.proofs.Common.{◌≡◌, ◌==◌, [], length, drop, lit<, sym, drop_of_length-le, arith}
use Rattle.std.proofs.lemmas.Iterator.Consumers.{YieldsList-turn, YieldsList-end}
use Rattle.std.proofs.lemmas.Iterator.Splits.{YieldsList-from_str_split}
use Rattle.std.proofs.lemmas.List.{length_push}
use Rattle.std.specs.List.{slice_split}
use Rattle.ob_definition.specs.Orders.{terms_of}
use Rattle.ob_definition.proofs.OrderTerms.{term_in, IsReadTo-entry}
use Rattle.ob_definition.proofs.ReadForms.{IsReadTo-stop, IsReadTo-all}
use Rattle.ob_definition.proofs.orders.order_entries.Goals as goal

pub loop-piece-preserved : goal.loop-piece-preserved
loop-piece-preserved c =
    let text = c.args.text.now in
    let turn = YieldsList-turn (YieldsList-from_str_split 44 text (lit< tt) (cc) (cc) (cc)) c.loop-piece.yielded _ c.loop-piece.yielded_by _ _ c.in-Some.piece c.in-Some.is c.next.ensures.steps in
    IsReadTo-entry (slice_split (λ b. b == 44) text) (length c.loop-piece.yielded) _ c.loop-piece.entries _ c.in-Some.piece.now c.in-Some-entry_of.entry
    turn c.in-Some-entry_of.ensures c.in_ok-push-in-Some-entry_of.ensures.ok (length_push c.loop-piece.yielded c.in-Some.piece) c.loop-piece.invariant

pub returns-in-None-entry_of : goal.returns-in-None-entry_of
returns-in-None-entry_of c =
    let text = c.args.text.now in
    let turn = YieldsList-turn (YieldsList-from_str_split 44 text (lit< tt) (cc) (cc) (cc)) c.loop-piece.yielded _ c.loop-piece.yielded_by _ _ c.in-Some.piece c.in-Some.is c.next.ensures.steps in
    sym (IsReadTo-stop term_in (slice_split (λ b. b == 44) text) (length c.loop-piece.yielded) (terms_of c.loop-piece.entries) c.in-Some.piece.now turn.0 turn.1 (sym c.in-None-entry_of.ensures) c.loop-piece.invariant)

pub returns : goal.returns
returns c =
    let text = c.args.text.now in
    let end = YieldsList-end (YieldsList-from_str_split 44 text (lit< tt) (cc) (cc) (cc)) c.loop-piece.yielded _ c.loop-piece.yielded_by _ _ c.in-None.is c.next.ensures.steps in
    let all : length c.loop-piece.yielded ≡ length (slice_split (λ b. b == 44) text) = end.1 in
    let none : drop (length c.loop-piece.yielded) (slice_split (λ b. b == 44) text) ≡ [] = drop_of_length-le (slice_split (λ b. b == 44) text) (omega arith) in
    sym (IsReadTo-all term_in (slice_split (λ b. b == 44) text) (length c.loop-piece.yielded) (terms_of c.loop-piece.entries) none c.loop-piece.invariant)
