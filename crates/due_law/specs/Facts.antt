-- What is due in the world of every run of the agreement. `w` is the world, `due` what is due there, `r` and `q` are ranks, `v` is a
-- verdict and `c` a context.
use Rattle.std.specs.Prelude.{◌≡◌, ℕ, true, false, get_or, slice_get, Some, None}
use Rattle.mpi_base.specs.declared.keys.Key.{Key}
use Rattle.mpi_base.specs.MemberLists.{has_rank}
use Rattle.agree_law.specs.declared.rows.Stage.TheVariants.{Offered}
use Rattle.agree_law.specs.declared.rows.Verdict.{Verdict}
use Rattle.agree_law.specs.declared.rows.Verdict.TheVariants.{Context}
use Rattle.agree_law.specs.Part.{stage_of, round_of}
use Rattle.agree_law.specs.Packets.{Down}
use Rattle.agree_law.specs.Rule.{is_key}
use Rattle.agree_law.specs.Verdicts.{may_settle_offers}
use Rattle.agree_law.specs.World.{World, part_at}
use Rattle.due_law.specs.Dues.{Dues, final_of}

-- a verdict that is due is final, and the rank is a member that has offered its mask in the key's round; the key owns the mask, in
-- which a context that is due is free
pub record DueIsOffered (w : World) (r : ℕ) (key : Key) (v : Verdict) : Type 0 where
  pub final : final_of v ≡ Some v
  pub member : has_rank key.members r ≡ true
  pub round : ℕ
  pub stage : stage_of (part_at w r).opened key ≡ Some (Offered round true)
  pub gather : round_of (part_at w r).rounds key ≡ round
  pub owns : is_key (part_at w r).owner key ≡ true
  pub free : (c : ℕ) → v ≡ Context c → get_or (part_at w r).mask c false ≡ true

abbrev pub DuesAreOffered : World → Dues → Type 0
DuesAreOffered w due = (r : ℕ) (key : Key) (v : Verdict) → due r key ≡ Some v → DueIsOffered w r key v

-- each final verdict on its way is due to the rank that it goes to; one that is ready or retry goes where nothing is due
abbrev pub DownsBringDues : World → Dues → Type 0
DownsBringDues w due =
    (key : Key) (i : ℕ) (v : Verdict) (from to place : ℕ) → slice_get w.links place ≡ Some (record { from = from; to = to; packet = Down key i v }) → due to key ≡ final_of v

-- where a key may be settled nothing is due for it
abbrev pub NoneDueAtSettles : World → Dues → Type 0
NoneDueAtSettles w due = (r : ℕ) (key : Key) (q : ℕ) → may_settle_offers r (part_at w r) key ≡ true → due q key ≡ None

-- nothing is due under a key that is not open at the rank
abbrev pub NoneDueUnopened : World → Dues → Type 0
NoneDueUnopened w due = (r : ℕ) (key : Key) → stage_of (part_at w r).opened key ≡ None → due r key ≡ None

-- nothing is due to a rank that is no member
abbrev pub NoneDueOutside : World → Dues → Type 0
NoneDueOutside w due = (r : ℕ) (key : Key) → has_rank key.members r ≡ false → due r key ≡ None
