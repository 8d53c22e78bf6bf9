-- What waits in queues, as contracts see it.
use Rattle.std.specs.Prelude.{ℕ, ◌==◌, ◌&&◌, ◌<◌, nat_lt, Bool, true, if◌then◌else◌, List, [], ◌∷◌, Option, Some, None, option_map, find, filter, not, refl}
use Rattle.std.specs.Option.{option_eq}
use Rattle.std.specs.Coded.{Coded, code_by, coded×, coded_ℕ, coded_list, coded_option}
use Rattle.match_box.specs.declared.queue.Queue.{Queue}
use Rattle.match_box.specs.declared.node.Head.{Head}

-- what waits: its number, its queue and itself
pub record Row (T : Type 0) : Type 0 where
  pub number : ℕ
  pub queue : Queue
  pub item : T

abbrev pub row : {T : Type 0} → ℕ → Queue → T → Row T
row number queue item = record { number = number; queue = queue; item = item }

-- what waits, by rising number, how many came so far, and for how many more there is room
pub record Table (T : Type 0) : Type 0 where
  pub rows : List (Row T)
  pub count : ℕ
  pub spare : ℕ

-- a queue, a row and a table are stored as the tuples of their fields
abbrev pub queue_code : Coded Queue
queue_code =
    code_by (ℕ × (ℕ × (Option ℕ × Option ℕ))) (coded× coded_ℕ (coded× coded_ℕ (coded× (coded_option coded_ℕ) (coded_option coded_ℕ))))
    (λ q. (q.ctx, (q.lane, (q.source, q.tag)))) (λ p. record { ctx = p.0; lane = p.1.0; source = p.1.1.0; tag = p.1.1.1 }) (λ _. refl)

abbrev pub row_code : {T : Type 0} → Coded T → Coded (Row T)
row_code {T} code =
    code_by (ℕ × (Queue × T)) (coded× coded_ℕ (coded× queue_code code))
    (λ r. (r.number, (r.queue, r.item))) (λ p. record { number = p.0; queue = p.1.0; item = p.1.1 }) (λ _. refl)

abbrev pub table_code : {T : Type 0} → Coded T → Coded (Table T)
table_code {T} code =
    code_by (List (Row T) × (ℕ × ℕ)) (coded× (coded_list (row_code code)) (coded× coded_ℕ coded_ℕ))
    (λ t. (t.rows, (t.count, t.spare))) (λ p. record { rows = p.0; count = p.1.0; spare = p.1.1 }) (λ _. refl)

-- whether two queues are the same
abbrev pub same_queue : Queue → Queue → Bool
same_queue a b = (a.ctx == b.ctx) && ((a.lane == b.lane) && (option_eq (λ m n. m == n) a.source b.source && option_eq (λ m n. m == n) a.tag b.tag))

-- the first of a queue, and what is left without it
abbrev pub first_of : {T : Type 0} → Queue → List (Row T) → Option (Row T)
first_of queue rows = find (λ r. same_queue queue r.queue) rows

abbrev pub without_first_of : {T : Type 0} → Queue → List (Row T) → List (Row T)
without_first_of queue [] = []
without_first_of queue (r ∷ rs) = if same_queue queue r.queue then rs else r ∷ without_first_of queue rs

-- what waits on a context, and what does not
abbrev pub on : {T : Type 0} → ℕ → List (Row T) → List (Row T)
on c rows = filter (λ r. r.queue.ctx == c) rows

abbrev pub off : {T : Type 0} → ℕ → List (Row T) → List (Row T)
off c rows = filter (λ r. not (r.queue.ctx == c)) rows

-- each item of a list meets this
abbrev pub AllOf : {A : Type 0} → (A → Type 0) → List A → Type 0
AllOf P [] = Unit
AllOf P (x ∷ xs) = P x × AllOf P xs

-- the numbers rise
abbrev pub IsRising : {T : Type 0} → List (Row T) → Type 0
IsRising [] = Unit
IsRising (r ∷ rs) = AllOf (λ s. r.number < s.number) rs × IsRising rs

-- any, or the same
abbrev pub meets : Option ℕ → Option ℕ → Bool
meets None other = true
meets (Some n) other = option_eq (λ a b. a == b) (Some n) other

-- whether a receive that waits in the first queue may take a message that waits in the second
abbrev pub takes : Queue → Queue → Bool
takes a b = (a.ctx == b.ctx) && ((a.lane == b.lane) && (meets a.source b.source && meets a.tag b.tag))

-- the number and queue of the first whose queue passes a test
abbrev pub head_of : {T : Type 0} → Row T → Head
head_of r = record { number = r.number; queue = r.queue }

abbrev pub spot : {T : Type 0} → (Queue → Bool) → List (Row T) → Option Head
spot test rows = option_map head_of (find (λ r. test r.queue) rows)

-- the one with the smaller number, if there is one
abbrev pub sooner : Option Head → Option Head → Option Head
sooner None b = b
sooner (Some a) None = Some a
sooner (Some a) (Some b) = if nat_lt b.number a.number then Some b else Some a

-- the sooner of this one and the first of a queue, if that queue is there and wanted
abbrev pub sooner_in : {T : Type 0} → Queue → List (Row T) → Option Head → Option Queue → Option Head
sooner_in wanted rows best None = best
sooner_in wanted rows best (Some queue) = if takes wanted queue then sooner best (spot (λ q. same_queue queue q) rows) else best
