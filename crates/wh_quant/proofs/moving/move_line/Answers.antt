use Rattle.std.proofs.Common.{◌≡◌, rules, sym, ◌∙◌, ap, inr}
use Rattle.wh_quant.specs.declared.quant.Quant.{Quant}
use Rattle.wh_quant.specs.Moves.{source_quant, lowered, raised, after_taking, destination_quant, Suffices, Fits64}
use Rattle.wh_quant.specs.Indexed.{holdings_of}
use Rattle.wh_quant.proofs.moving.move_line.Goals as goal

pub returns-clause-moves : goal.returns-clause-moves
returns-clause-moves c =
    let stock = holdings_of c.args.stock.now in
    let source : c.unwrap_or-source.result ≡ source_quant c.args.now c.args.line.now (holdings_of c.args.stock.now) = search rules in
    let destination : c.unwrap_or-destination.result ≡ destination_quant c.args.now c.args.line.now (source_quant c.args.now c.args.line.now (holdings_of c.args.stock.now))
    (after_taking c.args.now c.args.line.now (holdings_of c.args.stock.now)) = search rules in
    let enough : Suffices c.args.line.now c.unwrap_or-source.result = c.takes_too_much.ensures.no c.if-takes_too_much.false in
    let low : Fits64 (lowered c.args.line.now c.unwrap_or-source.result) = c.in-Some.ensures.0 in
    let high : Fits64 (raised c.args.line.now c.unwrap_or-source.result c.unwrap_or-destination.result) = c.in-Some-raised.ensures.0 in
    record {
      enough = rw (sym source) enough;
      source = rw (sym source) low;
      destination = rw (sym destination) high;
    }

pub returns-in_default-raised-clause-overflow : goal.returns-in_default-raised-clause-overflow
returns-in_default-raised-clause-overflow c i q told =
    let source : c.unwrap_or-source.result ≡ source_quant c.args.now c.args.line.now (holdings_of c.args.stock.now) = search rules in
    let destination : c.unwrap_or-destination.result ≡ destination_quant c.args.now c.args.line.now (source_quant c.args.now c.args.line.now (holdings_of c.args.stock.now))
    (after_taking c.args.now c.args.line.now (holdings_of c.args.stock.now)) = search rules in
    let enough : Suffices c.args.line.now c.unwrap_or-source.result = c.takes_too_much.ensures.no c.if-takes_too_much.false in
    let low : Fits64 (lowered c.args.line.now c.unwrap_or-source.result) = c.in-Some.ensures.0 in
    let high : Fits64 (raised c.args.line.now c.unwrap_or-source.result c.unwrap_or-destination.result) → ⊥ = c.in_default-raised.ensures in
    let number : i ≡ c.args.number = cc told in
    let quant : q ≡ c.unwrap_or-destination.result.id = cc told in (
      number,
      rw (sym source) enough,
      inr (rw (sym source) low, rw (sym destination) high, quant ∙ ap (λ (x : Quant). x.id) destination),
    )
