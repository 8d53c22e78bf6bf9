use Rattle.token_text.proofs.Exact.{number_exact, int_exact, name_exact, pset_name_exact, tag_exact, hex_exact}
use Rattle.token_text.proofs.ExactLists.{dest_exact, any_tag_exact, colour_exact, source_exact, ints_exact, rank_args_exact, rank_outs_exact, triplets_exact, members_exact}
use Rattle.token_text.proofs.laws.forms_are_exact.Goals as goal

pub returns-clause-name : goal.returns-clause-name
returns-clause-name c = name_exact

pub returns-clause-pset_name : goal.returns-clause-pset_name
returns-clause-pset_name c = pset_name_exact

pub returns-clause-tag : goal.returns-clause-tag
returns-clause-tag c = tag_exact

pub returns-clause-number : goal.returns-clause-number
returns-clause-number c = number_exact

pub returns-clause-int : goal.returns-clause-int
returns-clause-int c = int_exact

pub returns-clause-hex : goal.returns-clause-hex
returns-clause-hex c = hex_exact

pub returns-clause-dest : goal.returns-clause-dest
returns-clause-dest c = dest_exact

pub returns-clause-any_tag : goal.returns-clause-any_tag
returns-clause-any_tag c = any_tag_exact

pub returns-clause-colour : goal.returns-clause-colour
returns-clause-colour c = colour_exact

pub returns-clause-source : goal.returns-clause-source
returns-clause-source c = source_exact

pub returns-clause-ints : goal.returns-clause-ints
returns-clause-ints c = ints_exact

pub returns-clause-rank_args : goal.returns-clause-rank_args
returns-clause-rank_args c = rank_args_exact

pub returns-clause-rank_outs : goal.returns-clause-rank_outs
returns-clause-rank_outs c = rank_outs_exact

pub returns-clause-triplets : goal.returns-clause-triplets
returns-clause-triplets c = triplets_exact

pub returns-clause-members : goal.returns-clause-members
returns-clause-members c = members_exact
