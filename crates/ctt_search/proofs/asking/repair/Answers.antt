use Rattle.ctt_search.proofs.asking.repair.Goals as goal

pub returns-clause-problem : goal.returns-clause-problem
returns-clause-problem g c = c.in_ok-found.ensures.found.same

pub returns-clause-lawful : goal.returns-clause-lawful
returns-clause-lawful g c = c.in_ok-found.ensures.found.proposal.lawful

pub returns-clause-worth : goal.returns-clause-worth
returns-clause-worth g c = c.in_ok-found.ensures.found.proposal.no_worse

pub returns-clause-few : goal.returns-clause-few
returns-clause-few g c = c.in_ok-found.ensures.found.proposal.few

pub returns-clause-score : goal.returns-clause-score
returns-clause-score g c = c.in_ok-found.ensures.found.scored

pub returns-clause-pins : goal.returns-clause-pins
returns-clause-pins g c = c.in_ok-found.ensures.found.proposal.pinned
