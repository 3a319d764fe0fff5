use Rattle.mvd_input.proofs.command.ask_of.Goals as goal

pub returns-in-Some-clause-found : goal.returns-in-Some-clause-found
returns-in-Some-clause-found c = rw c.in-Some.ensures.parts (c.ask_of_parts.ensures.found c.in-Some.ensures.word)

pub returns-in-Some-clause-none : goal.returns-in-Some-clause-none
returns-in-Some-clause-none c = rw c.in-Some.ensures.parts (c.ask_of_parts.ensures.none c.in-Some.ensures.word)
