-- A call moves the registry where its entry fits, once the rest is tested and its match may be made.
use Rattle.std.proofs.Common.{◌≡◌, ℕ, ◌<◌, ◌&&◌, nat_lt, length, Bool, true, false, ◌≢◌, Option, Result, Ok, Err, IfOk, refl, sym, subst, ap, ◌∙◌, arith}
use Rattle.std.proofs.lemmas.Bool.Decides.{nat_tests}
use Rattle.mpi_base.specs.declared.messages.Matched.{Matched}
use Rattle.mpi_base.specs.declared.ops.Op.{Op}
use Rattle.mpi_base.specs.declared.replies.Reply.{Reply}
use Rattle.mpi_law.specs.declared.effects.Effect.{Effect}
use Rattle.mpi_law.specs.declared.setting.Setting.{Setting}
use Rattle.mpi_law.specs.declared.setting.TheConstants.{THREADS}
use Rattle.mpi_law.specs.Local.Effects.{said_at_once}
use Rattle.mpi_law.specs.Registry.Calls.{effect_at}
use Rattle.mpi_law.specs.Registry.State.{Registry, thread_of, is_idle_wait}
use Rattle.central_law.specs.Fits.{CallFits, MatchFits}
use Rattle.central_law.specs.Within.{posted_state}
use Rattle.central_law.specs.After.{called_state}
use Rattle.central_registry.specs.Moves.{Moves}

-- the rank and the thread are there, and the thread waits for nothing
abbrev pub is_to_call : Registry → ℕ → ℕ → Bool
is_to_call g r t = nat_lt r (length g.ranks) && (nat_lt t THREADS && is_idle_wait (thread_of g r t).wait)

module _ (s : Setting) (g : Registry) (r t : ℕ) (op : Op) (m : Option Matched) (said : Option Reply) where
  -- what it does, told by the entry's operation
  abbrev pub CallMoves : Bool → Registry → Type 0
  CallMoves moved new = Moves (CallFits s g r t op m said) g (called_state g r t (effect_at s g r op) m) moved new

  -- the same, told by what the operation does
  abbrev pub EffectMoves : Effect ℕ → Bool → Registry → Type 0
  EffectMoves e moved new = Moves (MatchFits (posted_state g r e) r m) g (called_state g r t e m) moved new

  module _ (ranks : length g.ranks ≡ s.ranks) (ready : is_to_call g r t ≡ true) where
    rank_there : r < s.ranks
    rank_there = grind (arith, nat_tests, ranks, ready)

    thread_there : t < THREADS
    thread_there = grind (arith, nat_tests, ready)

    is_idle : is_idle_wait (thread_of g r t).wait ≡ true
    is_idle = grind (arith, ready)

    here_moves : (moved : Bool) (new : Registry) → said_at_once (effect_at s g r op) ≡ said → EffectMoves (effect_at s g r op) moved new → CallMoves moved new
    here_moves moved new at_once h = record {
      may = λ is. record { rank = rank_there; thread = thread_there; idle = is_idle; reply = sym at_once; match_fits = h.may is };
      when = λ fits. h.when fits.match_fits;
      moves = h.moves;
      stays = h.stays;
    }

    call_moves : (e : Effect ℕ) (moved : Bool) (new : Registry) → e ≡ effect_at s g r op → said_at_once e ≡ said → EffectMoves e moved new → CallMoves moved new
    call_moves e moved new is =
        subst (λ (x : Effect ℕ). said_at_once x ≡ said → EffectMoves x moved new → CallMoves moved new) (sym is) (here_moves moved new)

    pub called_moves : {E : Type 0} (e : Effect ℕ) (result : Result Bool E) (new : Registry) → e ≡ effect_at s g r op → said_at_once e ≡ said → IfOk result (λ moved. EffectMoves e moved new) → IfOk result (λ moved. CallMoves moved new)
    called_moves e (Ok moved) new is at_once h = call_moves e moved new is at_once h
    called_moves e (Err error) new is at_once h = h

  -- an entry with another reply does not fit
  pub apart_stays : (e : Effect ℕ) → e ≡ effect_at s g r op → said_at_once e ≢ said → CallMoves false g
  apart_stays e is apart = record {
    may = λ h. absurd (cc (h));
    when = λ fits. absurd (apart (ap said_at_once is ∙ sym fits.reply));
    moves = λ h. absurd (cc (h));
    stays = λ h. refl;
  }
