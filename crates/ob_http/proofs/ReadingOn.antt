-- Parts of a connection that come one after another.
use Rattle.std.proofs.Common.{◌≡◌, ℕ, ◌+◌, ◌^◌, ◌<◌, List, [], ◌++◌, length, refl, sym, ap, ◌∙◌, arith, append_assoc, length-append, Option, Some, None, option_map}
use Rattle.ob_http.specs.Connection.{Connection, Sent, ReadsOn, more_taken}

left_joined : (before mid now : Option (List ℕ)) (part more : List ℕ) → before ≡ option_map (λ left. part ++ left) mid → mid ≡ option_map (λ left. more ++ left) now
    → before ≡ option_map (λ left. (part ++ more) ++ left) now
left_joined before mid None part more first second = first ∙ ap (option_map (λ left. part ++ left)) second
left_joined before mid (Some left) part more first second = first ∙ ap (option_map (λ rest. part ++ rest)) second ∙ ap Some (sym (append_assoc part more left))

taken_joined : (taken a b : ℕ) → more_taken (more_taken taken a) b ≡ more_taken taken (a + b)
taken_joined taken a b = omega arith

-- one part after another is a part
pub sent_both : {before mid now : Connection} (part more : List ℕ) → Sent before mid part → Sent mid now more → Sent before now (part ++ more)
sent_both {before} {mid} {now} part more first second = record {
  left = left_joined before.left mid.left now.left part more first.left second.left;
  taken = second.taken ∙ ap (λ t. more_taken t (length more)) first.taken ∙ taken_joined before.ahead.taken (length part) (length more) ∙ ap (more_taken before.ahead.taken) (sym (length-append part more));
}

pub reads_both : {before mid now : Connection} (part more : List ℕ) → ReadsOn before mid part → ReadsOn mid now more → ReadsOn before now (part ++ more)
reads_both {before} {mid} {now} part more first second = record { sent = sent_both part more first.sent second.sent; written = second.written ∙ first.written }

left_same : (left : Option (List ℕ)) → left ≡ option_map (λ rest. [] ++ rest) left
left_same None = refl
left_same (Some rest) = refl

-- nothing is a part too, as long as the count is one
pub sent_nothing : (before now : Connection) → now.left ≡ before.left → now.ahead.taken ≡ before.ahead.taken → before.ahead.taken < 2 ^ 64 → Sent before now []
sent_nothing before now left taken fits = record {
  left = sym left ∙ left_same now.left;
  taken = taken ∙ omega arith;
}
