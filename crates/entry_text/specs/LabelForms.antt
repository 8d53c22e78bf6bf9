-- Forms of tokens that only journals have.
use Rattle.std.specs.Prelude.{ℕ, ◌≤◌, ◌&&◌, ◌||◌, Bool, false, List, [], ◌∷◌, length, take, drop, Option, codes, bytes_eq, find}
use Rattle.std.specs.Option.{is_some}
use Rattle.mpi_base.specs.Classes.{text_of_lem}
use Rattle.mpi_base.specs.declared.errors.ErrClass.{ErrClass}
use Rattle.mpi_base.specs.declared.errors.ErrClass.TheVariants as class
use Rattle.mpi_base.specs.declared.entries.Said.{Said}
use Rattle.mpi_base.specs.declared.entries.Said.TheVariants.{Exhausted}
use Rattle.token_text.specs.Forms.{Form}
use Rattle.token_text.specs.Numbers.{is_number}
use Rattle.token_text.specs.Words.{word_or}
use Rattle.entry_text.specs.Labels.{most_16, labelled_text, round_text, IsRoundSaid}

-- whether a text begins with a label and goes on as a number
abbrev pub is_labelled : List ℕ → ℕ → List ℕ → Bool
is_labelled label most t = bytes_eq (take (length label) t) label && is_number most (drop (length label) t)

-- numbers of at most a greatest value, behind a label
abbrev pub labelled_form : List ℕ → ℕ → Form ℕ
labelled_form label most = record { text = labelled_text label; Fits = λ n. n ≤ most; has = is_labelled label most; is_long = λ t. false }

-- a picked context, or none where all were in use at some member
abbrev pub picked_form : Form (Option ℕ)
picked_form = word_or (codes "exhausted") (labelled_form (codes "ctx=") most_16)

abbrev pub all_classes : List ErrClass
all_classes = class.Session ∷ class.Group ∷ class.Comm ∷ class.Rank ∷ class.Tag ∷ class.Arg ∷ class.Request ∷ class.Truncate ∷ class.Busy ∷ class.Exhausted ∷ []

-- the class with this text, if there is one
abbrev pub class_in : List ℕ → Option ErrClass
class_in text = find (λ c. bytes_eq (text_of_lem c) text) all_classes

-- error classes
abbrev pub class_form : Form ErrClass
class_form = record { text = text_of_lem; Fits = λ c. Unit {0}; has = λ t. is_some (class_in t); is_long = λ t. false }

-- what a packet says of a round
abbrev pub round_form : Form Said
round_form = record {
  text = round_text;
  Fits = IsRoundSaid;
  has = λ t. bytes_eq t (codes "ready") || (bytes_eq t (codes "retry") || (bytes_eq t (codes "exhausted") || is_labelled (codes "ctx=") most_16 t));
  is_long = λ t. false;
}
