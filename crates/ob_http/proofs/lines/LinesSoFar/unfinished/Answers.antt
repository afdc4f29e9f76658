-- Nothing but empty lines came where no request line did and no line is left open.
use Rattle.std.proofs.Common.{◌≡◌, ℕ, true, false, not, cond, ap, sym, ◌∙◌, refl, Option, Some, None, is_some}
use Rattle.ob_http.proofs.EmptyLines.{ends_empty, ends_in_text, ends_in_line}
use Rattle.ob_http.specs.declared.lines.Front.TheVariants.{Empty, Part}
use Rattle.ob_http.proofs.lines.LinesSoFar.unfinished.Goals as goal
use Rattle.ob_http.proofs.lines.LinesSoFar.unfinished.Goals.{else-is_none-via-then-is_none+else-self-bytes, else-is_none-via-else-is_none}

none_from : (o : Option (ℕ × ℕ)) → is_some o ≡ false → o ≡ None
none_from None e = refl
none_from (Some span) e = absurd (cc)

some_from : (o : Option (ℕ × ℕ)) → is_some o ≡ true → o ≡ None → ⊥
some_from None e is = absurd (cc)
some_from (Some span) e is = cc

pub returns-then-self-bytes : goal.returns-then-self-bytes
returns-then-self-bytes c =
    sym (ap (λ b. cond b Empty Part) (ends_empty c.requires.so_far c.requires.all (none_from c.args.self.now.line (c.is_none.ensures ∙ ap not c.if-is_none.true)) c.if-self-bytes.true))

pub returns-else-is_none : goal.returns-else-is_none
returns-else-is_none c =
    elim c.else-is_none.branch [
      | else-is_none-via-then-is_none+else-self-bytes w ↦ sym (ap (λ b. cond b Empty Part) (ends_in_line c.requires.so_far c.requires.all w.if-self-bytes.false))
      | else-is_none-via-else-is_none w ↦ sym (ap (λ b. cond b Empty Part) (ends_in_text c.requires.so_far c.requires.all (some_from c.args.self.now.line (c.is_none.ensures ∙ ap not w.if-is_none.false))))
    ]
