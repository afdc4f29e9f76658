use Rattle.std.proofs.Common.{inl, inr, List, [], ◌∷◌, get_or, subst, sym}
use Rattle.std.specs.Prelude.{Contains, is_ok}
use Rattle.std.proofs.lemmas.List.{get_or_default, take_all}
use Rattle.std.proofs.lemmas.List.Elements.{Contains-append_left, Contains-append_right, Contains-push}
use Rattle.ob_base.specs.declared.id.Cell.{Cell}
use Rattle.ob_base.specs.declared.id.RowKey.{RowKey}
use Rattle.ob_schema.specs.Tables.{key_of}
use Rattle.ob_cache.proofs.Listed.{added-kept}
use Rattle.ob_cache.proofs.MarkedValues.{contains-none, one-more}
use Rattle.ob_cache.proofs.behind.add_rows.Goals as goal

pub loop-cell-init : goal.loop-cell-init
loop-cell-init c = record {
  kept = λ key one. subst (λ (l : List RowKey). Contains l key) (sym c.in_ok-extend_from_slice.ensures.items) (Contains-append_left c.args.listed.now.items c.args.touched.now key one);
  touched = λ key one. subst (λ (l : List RowKey). Contains l key) (sym c.in_ok-extend_from_slice.ensures.items) (Contains-append_right c.args.listed.now.items c.args.touched.now key one);
  done = λ cell one. absurd (contains-none cell one);
}

pub loop-cell-preserved : goal.loop-cell-preserved
loop-cell-preserved c =
    let cells = c.args.marked.now in
    let i = c.loop-cell.cell-index in
    let none : Cell = record { model = record { 0 = 0 }; id = record { 0 = 0 }; field = record { 0 = 0 } } in
    let cell = get_or cells i none in
    let low = c.loop-cell-test.true in
    let old = c.loop-cell.listed.items in
    let new = c.push.new.self.items in
    let row : RowKey = key_of cell.model cell.id in
    let still : (key : RowKey) → Contains old key → Contains new key = λ key one. subst (λ (l : List RowKey). Contains l key) (sym c.in_ok-push.ensures.items) (Contains-append_left old (row ∷ []) key one) in
    record {
      kept = λ key one. still key (c.loop-cell.invariant.kept key one);
      touched = λ key one. still key (c.loop-cell.invariant.touched key one);
      done = λ other one. elim (one-more cells i cell low (get_or_default cells i none cell low) other one) [
        | inl earlier ↦ still (key_of other.model other.id) (c.loop-cell.invariant.done other earlier)
        | inr same ↦ subst (λ (d : Cell). Contains new (key_of d.model d.id)) same (subst (λ (l : List RowKey). Contains l row) (sym c.in_ok-push.ensures.items) (Contains-push old row))
      ];
    }

pub returns-in_err-push-clause-kept : goal.returns-in_err-push-clause-kept
returns-in_err-push-clause-kept c = λ key one. added-kept (is_ok c.push.result) c.loop-cell.listed.items _ c.push.new.self.items c.push.ensures.items key (c.loop-cell.invariant.kept key one)

pub returns-clause-kept : goal.returns-clause-kept
returns-clause-kept c = c.loop-cell.invariant.kept

pub returns-clause-touched : goal.returns-clause-touched
returns-clause-touched c = c.loop-cell.invariant.touched

pub returns-clause-marked : goal.returns-clause-marked
returns-clause-marked c =
    λ cell one. c.loop-cell.invariant.done cell (subst (λ (l : List Cell). Contains l cell) (sym (take_all c.loop-cell.cell-index c.args.marked.now c.loop-cell-test.false)) one)
