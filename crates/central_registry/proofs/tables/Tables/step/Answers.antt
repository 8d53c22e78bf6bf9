use Rattle.mpi_base.specs.declared.entries.Act.TheVariants.{Call, Answer, Deliver, Settle, Back}
use Rattle.central_registry.proofs.Reached.{rests, has_called_it}
use Rattle.central_registry.proofs.Acts.{by_act, ok_act, by_nothing}
use Rattle.central_registry.proofs.tables.Tables.step.Goals as goal

pub call-requires-clause-rest : goal.call-requires-clause-rest
call-requires-clause-rest c = rests c.args.setting.now c.args.self.now.state c.requires.reached

pub answer-requires : goal.answer-requires
answer-requires c = λ n waits. has_called_it c.args.setting.now c.args.self.now.state c.requires.reached c.args.entry.now.choice.rank c.in-Answer.thread n waits

pub settle-requires : goal.settle-requires
settle-requires c = rests c.args.setting.now c.args.self.now.state c.requires.reached

pub give_back-requires : goal.give_back-requires
give_back-requires c = rests c.args.setting.now c.args.self.now.state c.requires.reached

pub returns-in-Call-clause-ok : goal.returns-in-Call-clause-ok
returns-in-Call-clause-ok c =
    ok_act c.args.setting.now c.args.self.now.state c.args.entry.now (rests c.args.setting.now c.args.self.now.state c.requires.reached) c.call.result c.call.new.self.state (Call c.in-Call.thread c.in-Call.op) c.in-Call.is c.call.ensures.ok

pub returns-in-Answer-clause-ok : goal.returns-in-Answer-clause-ok
returns-in-Answer-clause-ok c =
    ok_act c.args.setting.now c.args.self.now.state c.args.entry.now (rests c.args.setting.now c.args.self.now.state c.requires.reached) c.answer.result c.answer.new.self.state (Answer c.in-Answer.thread) c.in-Answer.is c.answer.ensures.ok

pub returns-in-Deliver-clause-ok : goal.returns-in-Deliver-clause-ok
returns-in-Deliver-clause-ok c =
    by_act c.args.setting.now c.args.self.now.state c.args.entry.now (rests c.args.setting.now c.args.self.now.state c.requires.reached) c.deliver.result c.deliver.new.self.state (Deliver c.in-Deliver.from) c.in-Deliver.is c.deliver.ensures

pub returns-in-Settle-clause-ok : goal.returns-in-Settle-clause-ok
returns-in-Settle-clause-ok c =
    ok_act c.args.setting.now c.args.self.now.state c.args.entry.now (rests c.args.setting.now c.args.self.now.state c.requires.reached) c.settle.result c.settle.new.self.state (Settle c.in-Settle.key) c.in-Settle.is c.settle.ensures.ok

pub returns-in-Back-clause-ok : goal.returns-in-Back-clause-ok
returns-in-Back-clause-ok c =
    ok_act c.args.setting.now c.args.self.now.state c.args.entry.now (rests c.args.setting.now c.args.self.now.state c.requires.reached) c.give_back.result c.give_back.new.self.state (Back c.in-Back.ctx) c.in-Back.is c.give_back.ensures.ok

pub returns-in-Offer-clause-ok : goal.returns-in-Offer-clause-ok
returns-in-Offer-clause-ok c = by_nothing c.args.setting.now c.args.self.now.state c.args.entry.now (rests c.args.setting.now c.args.self.now.state c.requires.reached) c.in-Offer.is

pub returns-in-Offer-2-clause-ok : goal.returns-in-Offer-2-clause-ok
returns-in-Offer-2-clause-ok c = by_nothing c.args.setting.now c.args.self.now.state c.args.entry.now (rests c.args.setting.now c.args.self.now.state c.requires.reached) c.in-Offer.is
