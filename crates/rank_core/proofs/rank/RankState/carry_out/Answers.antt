use Rattle.std.proofs.Common.{◌+◌, ap, refl}
use Rattle.rank_core.specs.Held.{Held}
use Rattle.rank_core.proofs.CountFacts.{calls-low}
use Rattle.rank_core.proofs.CommFacts.{rank-freed_session}
use Rattle.rank_core.proofs.CallFacts.{carried-awaits, carried-completes, carried-ends, carried-frees, carried-groups, carried-joins, carried-null, carried-opens, carried-posts, carried-receives, carried-says, carried-sends, carried-ungroups, few-sent}
use Rattle.rank_core.proofs.rank.RankState.carry_out.Goals as goal

pub returns-in-Says-clause-carried : goal.returns-in-Says-clause-carried
returns-in-Says-clause-carried g c = carried-says _ _ c.args.thread c.args.effect _ c.self.view_is c.requires.ready c.call.new.self c.in-Says.reply c.in-Says.is c.call.ensures

pub returns-in-Opens-clause-carried : goal.returns-in-Opens-clause-carried
returns-in-Opens-clause-carried g c = carried-opens _ _ c.args.thread c.args.effect _ c.self-in-Opens.view_is c.requires.ready c.call-in-Opens.new.self c.open.new.self.local c.in-Opens.target c.in-Opens.is c.call-in-Opens.ensures c.open.ensures.local

pub returns-in-Groups-clause-carried : goal.returns-in-Groups-clause-carried
returns-in-Groups-clause-carried g c = carried-groups _ _ c.args.thread c.args.effect _ c.self-in-Groups.view_is c.requires.ready c.call-in-Groups.new.self c.bind.new.self.local c.in-Groups.target c.in-Groups.members c.copy.result c.of.result c.in-Groups.session c.in-Groups.is c.copy.ensures.same c.of.ensures c.call-in-Groups.ensures c.bind.ensures.local

pub returns-in-Ungroups-clause-carried : goal.returns-in-Ungroups-clause-carried
returns-in-Ungroups-clause-carried g c = carried-ungroups _ _ c.args.thread c.args.effect _ c.self-in-Ungroups.view_is c.requires.ready c.call-in-Ungroups.new.self c.unbind.new.self.local _ c.in-Ungroups.is c.call-in-Ungroups.ensures c.unbind.ensures.local

pub returns-in-Joins-clause-carried : goal.returns-in-Joins-clause-carried
returns-in-Joins-clause-carried g c = carried-joins c.args.self.now c.args.thread c.args.effect c.in-Joins.asked c.join.new.self.state c.join.new.out c.in-Joins.is c.join.ensures.state c.join.ensures.sent

pub returns-in-Frees-clause-carried : goal.returns-in-Frees-clause-carried
returns-in-Frees-clause-carried g c = carried-frees c.args.self.now c.args.thread c.args.effect _ _ c.free.new.self.state _ c.requires.ready c.in-Frees.is c.free.ensures.state

pub returns-in-Ends-clause-carried : goal.returns-in-Ends-clause-carried
returns-in-Ends-clause-carried g c = carried-ends _ _ c.args.thread c.args.effect _ c.self-in-Ends.view_is c.requires.ready c.call-in-Ends.new.self c.end_session.new.self.local _ _ c.free_session.new.self.comms c.in-Ends.is c.call-in-Ends.ensures c.free_session.ensures.comms c.end_session.ensures.local

pub returns-in-Sends-clause-carried : goal.returns-in-Sends-clause-carried
returns-in-Sends-clause-carried g c = carried-sends c.args.self.now c.args.thread c.args.effect c.in-Sends.sending c.send.new.self.state c.send.result _ c.send.new.out c.requires.ready c.in-Sends.is c.send.ensures.state c.send.ensures.matched c.send.ensures.sent

pub returns-in-Sends-clause-few : goal.returns-in-Sends-clause-few
returns-in-Sends-clause-few g c = few-sent _ _ c.send.new.out c.requires.ready c.send.ensures.agreed c.send.ensures.few

pub returns-in-Receives-clause-carried : goal.returns-in-Receives-clause-carried
returns-in-Receives-clause-carried g c = carried-receives c.args.self.now c.args.self.now c.args.thread c.args.effect _ refl c.requires.ready c.in-Receives.receiving (c.self-in-Receives.inside.posts + 1) c.receive.new.self.state c.receive.result c.in-Receives.is (ap (λ (x : Held). x.state.posts + 1) c.self-in-Receives.view_is) c.receive.ensures.state c.receive.ensures.matched

pub returns-in-Posts-clause-carried : goal.returns-in-Posts-clause-carried
returns-in-Posts-clause-carried g c = carried-posts c.args.self.now c.args.self.now c.args.thread c.args.effect _ refl c.requires.ready c.in-Posts.target c.in-Posts.receive c.receive-matched.new.self.state c.receive-matched.result c.in-Posts.is c.receive-matched.ensures.state c.receive-matched.ensures.matched

pub returns-in-NullPosts-clause-carried : goal.returns-in-NullPosts-clause-carried
returns-in-NullPosts-clause-carried g c = carried-null _ _ c.args.thread c.args.effect _ c.self-in-NullPosts.view_is c.requires.ready c.call-in-NullPosts.new.self c.bind-in-NullPosts.new.self.local _ c.in-NullPosts.is c.call-in-NullPosts.ensures c.bind-in-NullPosts.ensures.local

pub returns-in-Completes-clause-carried : goal.returns-in-Completes-clause-carried
returns-in-Completes-clause-carried g c = carried-completes _ _ c.args.thread c.args.effect _ c.self-in-Completes.view_is c.requires.ready c.call-in-Completes.new.self c.unbind-in-Completes.new.self.local _ _ c.in-Completes.is c.call-in-Completes.ensures c.unbind-in-Completes.ensures.local

pub returns-in-Awaits-clause-carried : goal.returns-in-Awaits-clause-carried
returns-in-Awaits-clause-carried g c = carried-awaits _ _ c.args.thread c.args.effect _ c.self-in-Awaits.view_is c.requires.ready c.call-in-Awaits.new.self _ c.in-Awaits.is c.call-in-Awaits.ensures

pub call-requires-clause-count : goal.call-requires-clause-count
call-requires-clause-count g c = calls-low _ _ c.args.thread c.self.view_is c.requires.counts

pub call-requires-in-Opens-clause-count : goal.call-requires-in-Opens-clause-count
call-requires-in-Opens-clause-count g c = calls-low _ _ c.args.thread c.self-in-Opens.view_is c.requires.counts

pub call-requires-in-Groups-clause-count : goal.call-requires-in-Groups-clause-count
call-requires-in-Groups-clause-count g c = calls-low _ _ c.args.thread c.self-in-Groups.view_is c.requires.counts

pub call-requires-in-Ungroups-clause-count : goal.call-requires-in-Ungroups-clause-count
call-requires-in-Ungroups-clause-count g c = calls-low _ _ c.args.thread c.self-in-Ungroups.view_is c.requires.counts

pub call-requires-in-Ends-clause-count : goal.call-requires-in-Ends-clause-count
call-requires-in-Ends-clause-count g c = calls-low _ _ c.args.thread c.self-in-Ends.view_is c.requires.counts

pub call-requires-in-NullPosts-clause-count : goal.call-requires-in-NullPosts-clause-count
call-requires-in-NullPosts-clause-count g c = calls-low _ _ c.args.thread c.self-in-NullPosts.view_is c.requires.counts

pub call-requires-in-Completes-clause-count : goal.call-requires-in-Completes-clause-count
call-requires-in-Completes-clause-count g c = calls-low _ _ c.args.thread c.self-in-Completes.view_is c.requires.counts

pub call-requires-in-Awaits-clause-count : goal.call-requires-in-Awaits-clause-count
call-requires-in-Awaits-clause-count g c = calls-low _ _ c.args.thread c.self-in-Awaits.view_is c.requires.counts

pub invariant_of-self-in-Ends : goal.invariant_of-self-in-Ends
invariant_of-self-in-Ends g c = rank-freed_session _ _ c.free_session.ensures.rank c.self-in-Ends.invariant c.in-Ends.session c.free_session.ensures.comms
