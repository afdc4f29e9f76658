-- Texts in parts are the same, from either end.
use Rattle.std.proofs.Common.{◌≡◌, ◌++◌, ℕ, List, sym, ap, ◌∙◌, append_assoc}
use Rattle.std.specs.Prelude.{codes}

pub unreadable_as : (model name id : List ℕ) → model ≡ name → codes "unreadable " ++ (model ++ (codes " " ++ id)) ≡ ((codes "unreadable " ++ name) ++ codes " ") ++ id
unreadable_as model name id same = ap (λ (m : List ℕ). codes "unreadable " ++ (m ++ (codes " " ++ id))) same ∙ ap (λ (l : List ℕ). codes "unreadable " ++ l) (sym (append_assoc name (codes " ") id))

two : (x b c rest : List ℕ) → x ++ (b ++ (c ++ rest)) ≡ ((x ++ b) ++ c) ++ rest
two x b c rest = sym (append_assoc x b (c ++ rest)) ∙ sym (append_assoc (x ++ b) c rest)

pub eleven : (a b c d e f g h i j k : List ℕ) → a ++ (b ++ (c ++ (d ++ (e ++ (f ++ (g ++ (h ++ (i ++ (j ++ k))))))))) ≡ (((((((((a ++ b) ++ c) ++ d) ++ e) ++ f) ++ g) ++ h) ++ i) ++ j) ++ k
eleven a b c d e f g h i j k =
    two a b c (d ++ (e ++ (f ++ (g ++ (h ++ (i ++ (j ++ k)))))))
    ∙ two ((a ++ b) ++ c) d e (f ++ (g ++ (h ++ (i ++ (j ++ k)))))
    ∙ two ((((a ++ b) ++ c) ++ d) ++ e) f g (h ++ (i ++ (j ++ k)))
    ∙ two ((((((a ++ b) ++ c) ++ d) ++ e) ++ f) ++ g) h i (j ++ k)
    ∙ sym (append_assoc ((((((((a ++ b) ++ c) ++ d) ++ e) ++ f) ++ g) ++ h) ++ i) j k)
