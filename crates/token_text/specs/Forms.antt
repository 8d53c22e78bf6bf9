-- Lexical forms: the token of each value, and which tokens are of a form.
use Rattle.std.specs.Prelude.{ℕ, Bool, if◌then◌else◌, List, length, Option, Some, None}
use Rattle.token_text.specs.declared.faults.TokenFault.{TokenFault}
use Rattle.token_text.specs.declared.faults.TokenFault.TheVariants.{NotOfForm, TooLong}

-- a lexical form of tokens that show values of a type
pub record Form (V : Type 0) : Type 1 where
  -- the one token of a value
  pub text : V → List ℕ
  -- the values that have a token
  pub Fits : V → Type 0
  -- whether a token is of the form, its length or its number of items left aside
  pub has : List ℕ → Bool
  -- whether a token of the form is too long, or has too many items
  pub is_long : List ℕ → Bool

-- what is wrong with a token in the place of a form
abbrev pub fault_of : {V : Type 0} → Form V → List ℕ → Option TokenFault
fault_of f t = if f.has t then (if f.is_long t then Some TooLong else None) else Some NotOfForm
