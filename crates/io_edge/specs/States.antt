-- What callers see of the sources and the sinks of this crate.
use Rattle.std.specs.Prelude.{ℕ, Bool, List}

-- a source in memory: the bytes left, the most that one read gives, the numbers of the calls that fail, and the calls and the faults so far
pub record MemorySourceState : Type 0 where
  pub left : List ℕ
  pub piece : ℕ
  pub fails : List ℕ
  pub calls : ℕ
  pub faults : ℕ

-- a sink in memory: the bytes written, how many more it has room for, the most that one write takes, the numbers of the calls that fail, the calls and the faults so far, and whether it is finished
pub record MemorySinkState : Type 0 where
  pub written : List ℕ
  pub room : ℕ
  pub piece : ℕ
  pub fails : List ℕ
  pub calls : ℕ
  pub faults : ℕ
  pub finished : Bool

-- a source that never fails: the bytes left, and the most that one read gives
pub record SureSourceState : Type 0 where
  pub left : List ℕ
  pub piece : ℕ

-- a sink that never fails: whether it is finished
pub record SureSinkState : Type 0 where
  pub finished : Bool

-- standard input: the faults so far
pub record StdSourceState : Type 0 where
  pub faults : ℕ

-- standard output: the faults so far, and whether it is finished
pub record StdSinkState : Type 0 where
  pub faults : ℕ
  pub finished : Bool
