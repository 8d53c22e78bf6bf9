-- What readers and writers say of forms.
use Rattle.std.specs.Prelude.{◌≡◌, ℕ, ◌+◌, ◌≤◌, ◌==◌, ◌&&◌, not, nat_lt, Bool, true, List, ◌++◌, length, Some, None, Result, Ok, Err}
use Rattle.std.specs.List.{list_all}
use Rattle.token_text.specs.declared.faults.TokenFault.{TokenFault}
use Rattle.token_text.specs.Forms.{Form, fault_of}

-- a token that is nothing but the text of a value
pub record Shows {V : Type 0} (f : Form V) (token : List ℕ) (v : V) : Type 0 where
  pub good : fault_of f token ≡ None
  pub text : token ≡ f.text v
  pub fits : f.Fits v

-- what a reader says of a token: the value that it shows, or what is wrong with it
abbrev pub Reads : {V : Type 0} → Form V → List ℕ → Result V TokenFault → Type 0
Reads f token (Ok v) = Shows f token v
Reads f token (Err fault) = fault_of f token ≡ Some fault

-- the token of a value is added at the end, in at most so many bytes
pub record Puts {V : Type 0} (f : Form V) (most : ℕ) (v : V) (old new : List ℕ) : Type 0 where
  pub added : new ≡ old ++ f.text v
  pub short : length new ≤ length old + most

-- whether a text has a byte, and no space among its bytes
abbrev pub is_solid : List ℕ → Bool
is_solid t = nat_lt 0 (length t) && list_all (λ b. not (b == 32)) t

-- a form whose tokens and values belong to each other one by one
pub record IsExact {V : Type 0} (f : Form V) : Type 0 where
  -- the token of a value has no fault
  pub own : (v : V) → f.Fits v → fault_of f (f.text v) ≡ None
  -- a token is that of at most one value
  pub alone : (a b : V) → f.Fits a → f.Fits b → f.text a ≡ f.text b → a ≡ b
  -- a token stands between spaces as one
  pub solid : (v : V) → f.Fits v → is_solid (f.text v) ≡ true
