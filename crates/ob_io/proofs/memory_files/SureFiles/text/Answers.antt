-- A text is the one of the name, or is passed over.
use Rattle.std.proofs.Common.{◌≡◌, ℕ, ◌+◌, ◌<◌, Bool, true, false, cond, List, length, get_or, drop, Option, Some, sym, ap, ◌∙◌, arith}
use Rattle.std.specs.Prelude.{Vec}
use Rattle.std.specs.Str.{bytes_eq}
use Rattle.std.specs.declared.alloc.Global.{Global}
use Rattle.std.proofs.lemmas.List.{at_drop_more}
use Rattle.ob_io.specs.MemoryFiles.{text_at, texts_in}
use Rattle.ob_io.proofs.memory_files.SureFiles.text.Goals as goal

module _ (pairs : List (List ℕ × Vec ℕ Global)) (name : List ℕ) (i : ℕ) (p : List ℕ × Vec ℕ Global) (lt : i < length pairs) (is : p ≡ get_or pairs i p) where
  one_by_one : text_at (texts_in (drop i pairs)) name ≡ cond (bytes_eq name p.0) (Some p.1.items) (text_at (texts_in (drop (i + 1) pairs)) name)
  one_by_one =
      let rest = text_at (texts_in (drop (i + 1) pairs)) name in
      at_drop_more (λ (l : List (List ℕ × Vec ℕ Global)). text_at (texts_in l) name) pairs i p lt
      ∙ ap (λ (q : List ℕ × Vec ℕ Global). cond (bytes_eq name q.0) (Some q.1.items) rest) (sym is)

  found : bytes_eq name p.0 ≡ true → text_at (texts_in (drop i pairs)) name ≡ Some p.1.items
  found named = one_by_one ∙ ap (λ (b : Bool). cond b (Some p.1.items) (text_at (texts_in (drop (i + 1) pairs)) name)) named

  passed : bytes_eq name p.0 ≡ false → text_at (texts_in (drop i pairs)) name ≡ text_at (texts_in (drop (i + 1) pairs)) name
  passed other = one_by_one ∙ ap (λ (b : Bool). cond b (Some p.1.items) (text_at (texts_in (drop (i + 1) pairs)) name)) other

pub returns-then-eq : goal.returns-then-eq
returns-then-eq c =
    let own = c.loop-own-item.result in
    let low : c.loop-own.own-index < length c.deref-own-items.result.now = omega arith in
    let named : bytes_eq c.args.name.now own.0 ≡ true = ap (bytes_eq c.args.name.now) (sym c.as_str.ensures) ∙ sym c.if-eq.ensures in
    let text : c.as_slice.result.now ≡ own.1.items = c.as_slice.ensures.value in
    ap Some text ∙ sym (found c.deref-own-items.result.now c.args.name.now c.loop-own.own-index own low c.loop-own-item.is named) ∙ c.loop-own.invariant

pub loop-own-preserved : goal.loop-own-preserved
loop-own-preserved c =
    let own = c.loop-own-item.result in
    let low : c.loop-own.own-index < length c.deref-own-items.result.now = omega arith in
    let other : bytes_eq c.args.name.now own.0 ≡ false = ap (bytes_eq c.args.name.now) (sym c.as_str.ensures) ∙ sym c.if-eq.ensures in
    sym (passed c.deref-own-items.result.now c.args.name.now c.loop-own.own-index own low c.loop-own-item.is other) ∙ c.loop-own.invariant
