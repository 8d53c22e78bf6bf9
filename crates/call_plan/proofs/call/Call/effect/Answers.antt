use Rattle.std.proofs.Common.{◌∙◌, ap, sym}
use Rattle.mpi_law.specs.Local.{refusal}
use Rattle.call_plan.specs.Targets.{target_of}
use Rattle.call_plan.specs.Receivers.{message_of}
use Rattle.call_plan.proofs.Refusals.{if_some, target-free, receiver-within}
use Rattle.call_plan.proofs.call.Call.effect.Goals as goal

pub returns-in-Ok-clause-free : goal.returns-in-Ok-clause-free
returns-in-Ok-clause-free g c =
    let around = g.A.Around.seen c.args.self.now.around.now in
    let same = ap refusal (sym c.planned.ensures ∙ c.in-Ok.is) in
    if_some _ _ (λ t e. target-free c.args.self.now.setting.now c.args.self.now.rank around c.args.self.now.objects.now.local c.args.op.now t (ap target_of same ∙ e))

pub returns-in-Ok-clause-receiver : goal.returns-in-Ok-clause-receiver
returns-in-Ok-clause-receiver g c =
    let around = g.A.Around.seen c.args.self.now.around.now in
    let same = ap refusal (sym c.planned.ensures ∙ c.in-Ok.is) in
    if_some _ _ (λ m e. receiver-within c.args.self.now.setting.now c.args.self.now.rank around c.args.self.now.objects.now.local c.args.op.now m (ap message_of same ∙ e))
