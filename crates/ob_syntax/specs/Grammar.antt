-- Which tokens spell which tree. A form of the language that is added has its rule here; the words on faults stay.
use Rattle.std.specs.Prelude.{◌≡◌, ℕ, ℤ, suc, ◌≤◌, Bool, List, [], ◌∷◌, ◌++◌}
use Rattle.ob_base.specs.Limits.{max_expression_depth}
use Rattle.ob_base.specs.declared.syntax.Operator.{Operator}
use Rattle.ob_base.specs.declared.syntax.Operator.TheVariants.{Or, And, Add, Subtract, Multiply, Divide, Modulo}
use Rattle.ob_syntax.specs.declared.sign.Sign.TheVariants as sign
use Rattle.ob_base.specs.declared.syntax.Prefix.{Prefix}
use Rattle.ob_base.specs.declared.syntax.Prefix.TheVariants.{Not, Minus}
use Rattle.ob_base.specs.Syntax.{Tree, integer, a_text, truth, unset, path, prefix, binary, call, Arguments, no_arguments, argument, depth}
use Rattle.ob_syntax.specs.Lexemes.{Lexeme, name, number, text, sign as a_sign, offset_of}

-- how tightly an operator binds: `or` at 0, `and` at 1, `not` at 2, comparisons at 3, sums at 4, products at 5, a minus before its operand at 6
abbrev pub level_of : Operator → ℕ
level_of Or = 0
level_of And = 1
level_of Add = 4
level_of Subtract = 4
level_of Multiply = 5
level_of Divide = 5
level_of Modulo = 5
level_of _ = 3

abbrev pub level_of_prefix : Prefix → ℕ
level_of_prefix Not = 2
level_of_prefix Minus = 6

-- what needs no parentheses anywhere
abbrev pub atom_level : ℕ
atom_level = 7

-- how tightly the left operand binds at least: chains nest to the left, and comparisons don't chain
abbrev pub left_level : Operator → ℕ
left_level Or = 0
left_level And = 1
left_level Multiply = 5
left_level Divide = 5
left_level Modulo = 5
left_level _ = 4

-- the sign of a prefix
abbrev pub sign_of_prefix : Prefix → ℕ → Lexeme
sign_of_prefix Not at = a_sign sign.Not at
sign_of_prefix Minus at = a_sign (sign.Operator Subtract) at

-- where tokens begin
abbrev pub first_offset : List Lexeme → ℕ
first_offset [] = 0
first_offset (token ∷ tokens) = offset_of token

-- names with dots between them
pub data SpellPath : List (List ℕ) → List Lexeme → Type 0 where
  one_name : (bytes : List ℕ) (at : ℕ) → SpellPath (bytes ∷ []) (name bytes at ∷ [])
  more_names : (bytes : List ℕ) (at dot : ℕ) (names : List (List ℕ)) (tokens : List Lexeme) → SpellPath names tokens
      → SpellPath (bytes ∷ names) (name bytes at ∷ a_sign sign.Dot dot ∷ tokens)

-- the tokens spell the tree where an operand must bind as tightly as a level
mutual
  pub data Spells : ℕ → Tree → List Lexeme → Type 0 where
    -- what binds more tightly serves too
    tighter : (level : ℕ) (tree : Tree) (tokens : List Lexeme) → Spells (suc level) tree tokens → Spells level tree tokens
    an_integer : (n : ℤ) (at : ℕ) → Spells atom_level (integer n at) (number n at ∷ [])
    some_text : (bytes : List ℕ) (at : ℕ) → Spells atom_level (a_text bytes at) (text bytes at ∷ [])
    a_truth : (b : Bool) (at : ℕ) → Spells atom_level (truth b at) (a_sign (sign.Truth b) at ∷ [])
    an_unset : (at : ℕ) → Spells atom_level (unset at) (a_sign sign.Unset at ∷ [])
    a_path : (names : List (List ℕ)) (tokens : List Lexeme) → SpellPath names tokens → Spells atom_level (path names (first_offset tokens)) tokens
    -- `not` before what binds as it does, and so a minus
    prefixed : (word : Prefix) (inner : Tree) (at : ℕ) (tokens : List Lexeme) → Spells (level_of_prefix word) inner tokens
        → Spells (level_of_prefix word) (prefix word inner at) (sign_of_prefix word at ∷ tokens)
    -- the right operand binds more tightly than the operator
    joined : (op : Operator) (left right : Tree) (front back : List Lexeme) (at : ℕ) → Spells (left_level op) left front → Spells (suc (level_of op)) right back
        → Spells (level_of op) (binary op left right (first_offset front)) (front ++ a_sign (sign.Operator op) at ∷ back)
    in_parentheses : (tree : Tree) (tokens : List Lexeme) (open_at close_at : ℕ) → Spells 0 tree tokens
        → Spells atom_level tree (a_sign sign.Open open_at ∷ tokens ++ a_sign sign.Close close_at ∷ [])
    a_call : (bytes : List ℕ) (given : Arguments) (tokens : List Lexeme) (at open_at close_at : ℕ) → SpellArguments given tokens
        → Spells atom_level (call bytes given at) (name bytes at ∷ a_sign sign.Open open_at ∷ tokens ++ a_sign sign.Close close_at ∷ [])

  -- one argument or more, with commas between them
  pub data SpellArguments : Arguments → List Lexeme → Type 0 where
    one_argument : (tree : Tree) (tokens : List Lexeme) → Spells 0 tree tokens → SpellArguments (argument tree no_arguments) tokens
    more_arguments : (tree : Tree) (rest : Arguments) (front back : List Lexeme) (comma : ℕ) → Spells 0 tree front → SpellArguments rest back
        → SpellArguments (argument tree rest) (front ++ a_sign sign.Comma comma ∷ back)

-- the tokens spell the tree as a whole expression
abbrev pub IsExpression : Tree → List Lexeme → Type 0
IsExpression tree tokens = Spells 0 tree tokens

-- the tokens spell at most one tree
abbrev pub SpellAtMostOneTree : List Lexeme → Type 0
SpellAtMostOneTree tokens = (a b : Tree) → IsExpression a tokens → IsExpression b tokens → a ≡ b

-- the tokens begin an expression, or are one
abbrev pub CanGoOn : List Lexeme → Type 0
CanGoOn tokens = (more : List Lexeme) × (tree : Tree) × IsExpression tree (tokens ++ more)

-- the tokens begin an expression that is shallow enough, or are one
abbrev pub CanStayShallow : List Lexeme → Type 0
CanStayShallow tokens = (more : List Lexeme) × (tree : Tree) × IsExpression tree (tokens ++ more) × (depth tree ≤ max_expression_depth)

-- the first place after which no expression goes on: a token, or the end of the text
pub data IsFirstFault (end : ℕ) : List Lexeme → ℕ → Type 0 where
  at_token : (front rest : List Lexeme) (token : Lexeme) → CanStayShallow front → ¬ CanGoOn (front ++ token ∷ []) → IsFirstFault end (front ++ token ∷ rest) (offset_of token)
  at_end : (tokens : List Lexeme) → CanStayShallow tokens → ((tree : Tree) → ¬ IsExpression tree tokens) → IsFirstFault end tokens end

-- the first token with which every expression nests too deep
pub data IsFirstTooDeep : List Lexeme → ℕ → Type 0 where
  too_deep : (front rest : List Lexeme) (token : Lexeme) → CanStayShallow front → CanGoOn (front ++ token ∷ [])
      → ¬ CanStayShallow (front ++ token ∷ []) → IsFirstTooDeep (front ++ token ∷ rest) (offset_of token)
