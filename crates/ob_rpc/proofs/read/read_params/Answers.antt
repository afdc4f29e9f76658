use Rattle.std.proofs.Common.{codes, refl, sym, ap, ◌∙◌}
use Rattle.ob_rpc.specs.Envelope.{wrong_element}
use Rattle.ob_rpc.specs.Seen.{seen_arity}
use Rattle.ob_rpc.proofs.Parts.{keys_differ, no_service, no_method, no_args, wrong_count, all_asked, items_len-view}
use Rattle.ob_rpc.proofs.read.read_params.Goals as goal

pub returns-in_default-clause-envelope : goal.returns-in_default-clause-envelope
returns-in_default-clause-envelope c =
    let none = rw c.take.ensures.value at (sym c.in_default.ensures) in
    rw (no_service _ _ _ none) c.fault_at.ensures

pub returns-in_default-method_of-clause-envelope : goal.returns-in_default-method_of-clause-envelope
returns-in_default-method_of-clause-envelope c =
    let service = rw c.take.ensures.value at (sym c.in-Some.ensures) in
    let none = rw (c.take-2.ensures.value, c.take.ensures.others (codes "method") (keys_differ _ _ refl), c.as_str.ensures) at (sym c.in_default-method_of.ensures.found) in
    rw (no_method _ _ _ service none) c.fault_at-in_default-method_of.ensures

pub returns-in_default-list_of-clause-envelope : goal.returns-in_default-list_of-clause-envelope
returns-in_default-list_of-clause-envelope c =
    let service = rw c.take.ensures.value at (sym c.in-Some.ensures) in
    let method = rw (c.take-2.ensures.value, c.take.ensures.others (codes "method") (keys_differ _ _ refl), c.as_str.ensures) at (sym c.in-Some-method_of.ensures.found) in
    let none = rw (c.take-3.ensures.value, c.take-2.ensures.others (codes "args") (keys_differ _ _ refl), c.take.ensures.others (codes "args") (keys_differ _ _ refl)) at (sym c.in_default-list_of.ensures) in
    rw (no_args _ _ _ service method none) c.fault_at-in_default-list_of.ensures

pub returns-in-Some-wrong_element-clause-envelope : goal.returns-in-Some-wrong_element-clause-envelope
returns-in-Some-wrong_element-clause-envelope c =
    let service = rw c.take.ensures.value at (sym c.in-Some.ensures) in
    let method = rw (c.take-2.ensures.value, c.take.ensures.others (codes "method") (keys_differ _ _ refl), c.as_str.ensures) at (sym c.in-Some-method_of.ensures.found) in
    let items = rw (c.take-3.ensures.value, c.take-2.ensures.others (codes "args") (keys_differ _ _ refl), c.take.ensures.others (codes "args") (keys_differ _ _ refl)) at (sym c.in-Some-list_of.ensures) in
    let count = ap (wrong_element (seen_arity c.in-Some-method_of.arity)) (items_len-view c.in-Some-list_of.args ∙ sym c.len.ensures) in
    rw (wrong_count _ _ _ service method items (count ∙ sym c.in-Some-wrong_element.ensures.wrong)) c.fault_at_element.ensures

pub returns-clause-envelope : goal.returns-clause-envelope
returns-clause-envelope c =
    let service = rw c.take.ensures.value at (sym c.in-Some.ensures) in
    let method = rw (c.take-2.ensures.value, c.take.ensures.others (codes "method") (keys_differ _ _ refl), c.as_str.ensures) at (sym c.in-Some-method_of.ensures.found) in
    let items = rw (c.take-3.ensures.value, c.take-2.ensures.others (codes "args") (keys_differ _ _ refl), c.take.ensures.others (codes "args") (keys_differ _ _ refl)) at (sym c.in-Some-list_of.ensures) in
    let count = ap (wrong_element (seen_arity c.in-Some-method_of.arity)) (items_len-view c.in-Some-list_of.args ∙ sym c.len.ensures) in
    rw (all_asked _ _ _ service method items (count ∙ sym c.in_default-wrong_element.ensures.wrong)) refl
