use Rattle.std.proofs.Common.{codes, refl, sym}
use Rattle.ob_rpc.proofs.Parts.{keys_differ, no_id, no_version, no_call, no_params, all_but_asked, view-Null}
use Rattle.ob_rpc.proofs.read.read_body.Goals as goal

pub returns-in_default-clause-envelope : goal.returns-in_default-clause-envelope
returns-in_default-clause-envelope c =
    let none = rw c.take.ensures.value at (sym c.in_default.ensures) in
    rw (no_id _ _ none) (rw view-Null at c.fault_at.ensures)

pub returns-in_default-version_of-clause-envelope : goal.returns-in_default-version_of-clause-envelope
returns-in_default-version_of-clause-envelope c =
    let id = rw c.take.ensures.value at (sym c.in-Some.ensures) in
    let none = rw (c.take-2.ensures.value, c.take.ensures.others (codes "jsonrpc") (keys_differ _ _ refl)) at (sym c.in_default-version_of.ensures) in
    rw (no_version _ _ id none) c.fault_at-in_default-version_of.ensures

pub returns-in_default-text_equal-clause-envelope : goal.returns-in_default-text_equal-clause-envelope
returns-in_default-text_equal-clause-envelope c =
    let id = rw c.take.ensures.value at (sym c.in-Some.ensures) in
    let version = rw (c.take-2.ensures.value, c.take.ensures.others (codes "jsonrpc") (keys_differ _ _ refl)) at (sym c.in-Some-version_of.ensures) in
    let none = rw (c.take-3.ensures.value, c.take-2.ensures.others (codes "method") (keys_differ _ _ refl), c.take.ensures.others (codes "method") (keys_differ _ _ refl)) at (sym c.in_default-text_equal.ensures) in
    rw (no_call _ _ id version none) c.fault_at-in_default-text_equal.ensures

pub returns-in_default-members_of-clause-envelope : goal.returns-in_default-members_of-clause-envelope
returns-in_default-members_of-clause-envelope c =
    let id = rw c.take.ensures.value at (sym c.in-Some.ensures) in
    let version = rw (c.take-2.ensures.value, c.take.ensures.others (codes "jsonrpc") (keys_differ _ _ refl)) at (sym c.in-Some-version_of.ensures) in
    let call = rw (c.take-3.ensures.value, c.take-2.ensures.others (codes "method") (keys_differ _ _ refl), c.take.ensures.others (codes "method") (keys_differ _ _ refl)) at (sym c.in-Some-text_equal.ensures) in
    let none = rw (
      c.take-4.ensures.value,
      c.take-3.ensures.others (codes "params") (keys_differ _ _ refl),
      c.take-2.ensures.others (codes "params") (keys_differ _ _ refl),
      c.take.ensures.others (codes "params") (keys_differ _ _ refl),
    ) at (sym c.in_default-members_of.ensures) in
    rw (no_params _ _ id version call none) c.fault_at-in_default-members_of.ensures

pub returns-clause-envelope : goal.returns-clause-envelope
returns-clause-envelope c =
    let id = rw c.take.ensures.value at (sym c.in-Some.ensures) in
    let version = rw (c.take-2.ensures.value, c.take.ensures.others (codes "jsonrpc") (keys_differ _ _ refl)) at (sym c.in-Some-version_of.ensures) in
    let call = rw (c.take-3.ensures.value, c.take-2.ensures.others (codes "method") (keys_differ _ _ refl), c.take.ensures.others (codes "method") (keys_differ _ _ refl)) at (sym c.in-Some-text_equal.ensures) in
    let params = rw (
      c.take-4.ensures.value,
      c.take-3.ensures.others (codes "params") (keys_differ _ _ refl),
      c.take-2.ensures.others (codes "params") (keys_differ _ _ refl),
      c.take.ensures.others (codes "params") (keys_differ _ _ refl),
    ) at (sym c.in-Some-members_of.ensures) in
    rw (all_but_asked _ _ id version call params) c.read_params.ensures.envelope
