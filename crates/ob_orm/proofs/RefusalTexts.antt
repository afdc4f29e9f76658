-- The pieces of messages, as they are written and as they are defined.
use Rattle.std.proofs.Common.{◌≡◌, ℕ, List, [], ◌++◌, codes, append_assoc, sym, ap, ◌∙◌}
use Rattle.std.proofs.lemmas.List.{append-nil}

-- a row that is not admitted, by no rule that is named
pub denied : (model name number : List ℕ) → model ≡ name → model ++ (codes " " ++ (number ++ codes " is not admitted")) ≡ ((name ++ codes " ") ++ number) ++ codes " is not admitted" ++ []
denied model name number same = rw same (simp (append_assoc, append-nil))

-- what is written of a row, with what goes on
after_row : (name number rest : List ℕ) → name ++ (codes " " ++ (number ++ rest)) ≡ ((name ++ codes " ") ++ number) ++ rest
after_row name number rest = sym (append_assoc (name ++ codes " ") number rest ∙ append_assoc name (codes " ") (number ++ rest))

-- a row that is not admitted, by a rule
pub denied_by : (model name number rule op : List ℕ) → model ≡ name → model ++ (codes " " ++ (number ++ (codes " is not admitted by " ++ (rule ++ (codes " for " ++ op)))))
    ≡ ((name ++ codes " ") ++ number) ++ codes " is not admitted" ++ (codes " by " ++ rule ++ codes " for " ++ op)
denied_by model name number rule op same =
    let tail : List ℕ = codes " by " ++ rule ++ codes " for " ++ op in
    let inner : codes " is not admitted by " ++ (rule ++ (codes " for " ++ op)) ≡ codes " is not admitted" ++ tail = ap (λ (x : List ℕ). codes " is not admitted by " ++ x) (sym (append_assoc rule (codes " for ") op)) in
    ap (λ (m : List ℕ). m ++ (codes " " ++ (number ++ (codes " is not admitted by " ++ (rule ++ (codes " for " ++ op)))))) same
    ∙ ap (λ (x : List ℕ). name ++ (codes " " ++ (number ++ x))) inner
    ∙ after_row name number (codes " is not admitted" ++ tail)
    ∙ sym (append_assoc ((name ++ codes " ") ++ number) (codes " is not admitted") tail)

-- the cell of a row
pub broken_at : (model name number column field : List ℕ) → model ≡ name → column ≡ field → model ++ (codes " " ++ (number ++ (codes " " ++ column))) ≡ ((name ++ codes " ") ++ number) ++ codes " " ++ field
broken_at model name number column field same there = rw (same, there) (simp append_assoc)

-- a field that may not be written
pub no_right_on : (model name column field : List ℕ) → model ≡ name → column ≡ field → codes "no right on " ++ (model ++ (codes "." ++ column)) ≡ codes "no right on " ++ name ++ codes "." ++ field
no_right_on model name column field same there = rw (same, there) (simp append_assoc)

-- a row that is not there
pub not_there : (model name number : List ℕ) → model ≡ name → model ++ (codes " " ++ (number ++ codes " does not exist")) ≡ ((name ++ codes " ") ++ number) ++ codes " does not exist"
not_there model name number same = rw same (simp append_assoc)
