use Rattle.std.proofs.Common.{rules, ◌≡◌, true, ap, sym, subst, ◌∙◌, ◌∷◌, [], ◌++◌}
use Rattle.mpi_base.specs.declared.entries.Entry.{Entry}
use Rattle.mpi_protocol.specs.World.{may_happen, moved, entry_at}
use Rattle.world_core.specs.Held.{Held, HasRoom}
use Rattle.world_core.specs.Posted.{IsPosted}
use Rattle.world_core.proofs.StepFacts.{below, enabled_is, has_step, counts_are_low, head_there, after_act_ranks, fits, moved_is, line_is, choice_is, world_after_step}
use Rattle.world_core.proofs.world.World.step.Goals as goal

pub make-entry-requires : goal.make-entry-requires
make-entry-requires g c =
    let inside = c.self.inside in
    let is = c.self.invariant.0 in
    let may = subst (λ (h : Held). may_happen h.world c.args.choice ≡ true) (sym c.self.view_is) c.requires.enabled in
    let room = subst (λ (h : Held). HasRoom h c.args.choice.rank) (sym c.self.view_is) c.requires.room in
    let old = c.index_mut.result.now in
    let few = is.places.few in (
      search rules,
      (
        search rules,
        (
          search rules,
          (
            enabled_is inside.setting inside.ranks.items inside.links inside.journal.entries is c.self.invariant.1 c.args.choice old c.index_mut.ensures.value may,
            (
              has_step inside.setting inside.ranks.items inside.links inside.journal.entries is c.self.invariant.1 c.args.choice old c.index_mut.ensures.value may room.step,
              (
                counts_are_low inside.setting inside.ranks.items inside.links inside.journal.entries is c.self.invariant.1 c.args.choice old c.index_mut.ensures.value may room.count c.counts_rise.ensures.rise,
                (
                  record { agreed = c.self.invariant.2; others = c.self.invariant.3; room = room.packets },
                  head_there inside.setting inside.ranks.items inside.links inside.journal.entries is c.self.invariant.1 c.args.choice old c.index_mut.ensures.value may,
                ),
              ),
            ),
          ),
        ),
      ),
    )

pub post-requires : goal.post-requires
post-requires g c =
    let inside = c.self.inside in
    let is = c.self.invariant.0 in
    let may = subst (λ (h : Held). may_happen h.world c.args.choice ≡ true) (sym c.self.view_is) c.requires.enabled in
    let room = subst (λ (h : Held). HasRoom h c.args.choice.rank) (sym c.self.view_is) c.requires.room in
    let old = c.index_mut.result.now in
    let few = is.places.few in (
      search rules,
      (
        search rules,
        (
          few,
          (
            ap (λ n. n.ranks) c.make-entry.ensures.links ∙ after_act_ranks inside.links old.state.rank c.args.choice.act ∙ c.self.invariant.1,
            (
              below inside.setting inside.ranks.items inside.links inside.journal.entries is c.self.invariant.1 c.args.choice old c.index_mut.ensures.value may,
              rw c.make-entry.ensures.links (fits inside.setting inside.ranks.items inside.links inside.journal.entries is c.self.invariant.1 c.args.choice old c.index_mut.ensures.value may
                  c.make-entry.new.state c.make-entry.result c.make-entry.new.out c.make-entry.ensures.made room.links),
            ),
          ),
        ),
      ),
    )

pub invariant_of-self : goal.invariant_of-self
invariant_of-self g c =
    let inside = c.self.inside in
    let is = c.self.invariant.0 in
    let may = subst (λ (h : Held). may_happen h.world c.args.choice ≡ true) (sym c.self.view_is) c.requires.enabled in
    let old = c.index_mut.result.now in
    let posted = subst (λ n. IsPosted n c.args.choice.rank c.make-entry.new.out c.post.new.links) c.make-entry.ensures.links c.post.ensures.posted in (
      rw c.push.ensures.entries (world_after_step inside.setting inside.ranks.items inside.links inside.journal.entries is c.self.invariant.1 c.args.choice old c.index_mut.ensures.value may
          c.make-entry.new.state c.make-entry.result c.make-entry.new.out c.make-entry.ensures.made c.post.new.links posted c.counts_rise.ensures.step c.counts_rise.ensures.rise),
      c.post.ensures.ranks ∙ ap (λ n. n.ranks) c.make-entry.ensures.links ∙ after_act_ranks inside.links old.state.rank c.args.choice.act ∙ c.self.invariant.1,
      c.post.ensures.agreed,
      c.post.ensures.others,
    )

pub returns-clause-world : goal.returns-clause-world
returns-clause-world g c =
    let inside = c.self.inside in
    let is = c.self.invariant.0 in
    let may = subst (λ (h : Held). may_happen h.world c.args.choice ≡ true) (sym c.self.view_is) c.requires.enabled in
    let old = c.index_mut.result.now in
    let posted = subst (λ n. IsPosted n c.args.choice.rank c.make-entry.new.out c.post.new.links) c.make-entry.ensures.links c.post.ensures.posted in
    moved_is inside.setting inside.ranks.items inside.links inside.journal.entries is c.self.invariant.1 c.args.choice old c.index_mut.ensures.value may
    c.make-entry.new.state c.make-entry.result c.make-entry.new.out c.make-entry.ensures.made c.post.new.links posted
    ∙ ap (λ (h : Held). moved h.world c.args.choice) c.self.view_is

pub returns-clause-entries : goal.returns-clause-entries
returns-clause-entries g c =
    let inside = c.self.inside in
    let is = c.self.invariant.0 in
    let may = subst (λ (h : Held). may_happen h.world c.args.choice ≡ true) (sym c.self.view_is) c.requires.enabled in
    let old = c.index_mut.result.now in
    let posted = subst (λ n. IsPosted n c.args.choice.rank c.make-entry.new.out c.post.new.links) c.make-entry.ensures.links c.post.ensures.posted in
    c.push.ensures.entries
    ∙ ap (λ e. inside.journal.entries ++ e ∷ []) (line_is inside.setting inside.ranks.items inside.links inside.journal.entries is c.self.invariant.1 c.args.choice old c.index_mut.ensures.value may
    c.make-entry.new.state c.make-entry.result c.make-entry.new.out c.make-entry.ensures.made c.post.new.links posted)
    ∙ ap (λ (h : Held). h.entries ++ entry_at h.world c.args.choice ∷ []) c.self.view_is

pub returns-clause-choice : goal.returns-clause-choice
returns-clause-choice g c =
    let inside = c.self.inside in
    let is = c.self.invariant.0 in
    let may = subst (λ (h : Held). may_happen h.world c.args.choice ≡ true) (sym c.self.view_is) c.requires.enabled in
    let old = c.index_mut.result.now in
    let posted = subst (λ n. IsPosted n c.args.choice.rank c.make-entry.new.out c.post.new.links) c.make-entry.ensures.links c.post.ensures.posted in
    let line =
    line_is inside.setting inside.ranks.items inside.links inside.journal.entries is c.self.invariant.1 c.args.choice old c.index_mut.ensures.value may
    c.make-entry.new.state c.make-entry.result c.make-entry.new.out c.make-entry.ensures.made c.post.new.links posted in
    let choice =
    choice_is inside.setting inside.ranks.items inside.links inside.journal.entries is c.self.invariant.1 c.args.choice old c.index_mut.ensures.value may
    c.make-entry.new.state c.make-entry.result c.make-entry.new.out c.make-entry.ensures.made c.post.new.links posted in
    ap (λ (h : Held). (entry_at h.world c.args.choice).choice) (sym c.self.view_is) ∙ (ap (λ (e : Entry). e.choice) (sym line) ∙ choice)
