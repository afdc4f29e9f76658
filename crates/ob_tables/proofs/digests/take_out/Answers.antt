use Rattle.std.proofs.Common.{◌≡◌, ◌==◌, ◌+◌, ◌&&◌, ℕ, Bool, true, false, Option, Some, None, drop, not, refl, sym, ap, eqb-true, subst, ◌∙◌}
use Rattle.std.specs.BTreeMap.{BTreeMap}
use Rattle.std.specs.Option.{option_eq}
use Rattle.ob_tables.specs.Digests.{digest_of, digested_at, is_digest, is_digested, shown_found}
use Rattle.ob_tables.specs.declared.digests.Digested.{Digested}
use Rattle.ob_tables.proofs.DigestedRows.{TakingOut, taking-begins, taking-ends, taking-goes, taking-passes}
use Rattle.ob_tables.proofs.digests.take_out.Goals as goal
use Rattle.ob_tables.proofs.digests.take_out.Goals.{then-ne+in_ok-remove_digest, else-ne}

-- digests that aren't told apart are the same
not_apart : (a b : Option ℕ) → not (option_eq ◌==◌ a b) ≡ false → a ≡ b
not_apart None None is = refl
not_apart None (Some b) is = cc
not_apart (Some a) None is = cc
not_apart (Some a) (Some b) is = ap (λ (n : ℕ). Some n) (eqb-true a b (told (a == b) is))
  where
    told : (e : Bool) → not e ≡ false → e ≡ true
    told true is = refl
    told false is = cc

pub loop-set-init : goal.loop-set-init
loop-set-init c = taking-begins c.args.sets.now c.args.key c.args.digests.now (shown_found c.args.old) (shown_found c.args.new) c.requires

pub loop-set-preserved : goal.loop-set-preserved
loop-set-preserved c =
    let key = c.args.key in
    let old = shown_found c.args.old in
    let new = shown_found c.args.new in
    let now = c.loop-set.digests in
    let sets = c.args.sets.now in
    let i = c.loop-set.set-index in
    let set = c.set-item.result in
    let before : c.digest_of-before.result ≡ digest_of old set = c.digest_of-before.ensures ∙ ap (digest_of old) c.as_slice.ensures in
    let after : c.digest_of-after.result ≡ digest_of new set = c.digest_of-after.ensures ∙ ap (digest_of new) c.as_slice-in-loop-set.ensures in
    let Next : BTreeMap Digested (Unit {0}) → Type 0 = TakingOut sets (drop (i + 1) sets) key old new c.args.digests.now in
    elim c.if-ne.branch [
      | then-ne+in_ok-remove_digest w ↦
          let gone = λ (digest : ℕ). w.in_ok-remove_digest.ensures.here digest ∙ ap (λ (o : Option ℕ). is_digested now (digested_at key digest) && not (is_digest o digest)) before in
          subst Next (sym w.digests-is)
          (taking-goes sets key c.args.digests.now old new now i set set c.loop-set-test.true c.set-item.is c.loop-set.invariant w.remove_digest.new.digests gone
          w.in_ok-remove_digest.ensures.elsewhere)
      | else-ne w ↦
          let same = not_apart c.digest_of-before.result c.digest_of-after.result (sym c.ne.ensures ∙ w.if-ne.false) in
          subst Next (sym w.digests-is)
          (taking-passes sets key c.args.digests.now old new now i set set c.loop-set-test.true c.set-item.is c.loop-set.invariant (sym before ∙ same ∙ after))
    ]

pub returns : goal.returns
returns c =
    taking-ends c.args.sets.now c.args.key c.args.digests.now (shown_found c.args.old) (shown_found c.args.new) c.loop-set.digests c.loop-set.set-index c.loop-set-test.false
    c.loop-set.invariant
