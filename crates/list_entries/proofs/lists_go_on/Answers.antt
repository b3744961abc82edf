use Rattle.list_entries.proofs.Pushed.{last_none, last-push, members-push, members-stay, stretch-push, told-push}
use Rattle.list_entries.proofs.lists_go_on.Goals as goal

pub returns-clause-none : goal.returns-clause-none
returns-clause-none c = last_none

pub returns-clause-last : goal.returns-clause-last
returns-clause-last c = last-push

pub returns-clause-members : goal.returns-clause-members
returns-clause-members c = members-push

pub returns-clause-silent : goal.returns-clause-silent
returns-clause-silent c = members-stay

pub returns-clause-stretch : goal.returns-clause-stretch
returns-clause-stretch c = stretch-push

pub returns-clause-told : goal.returns-clause-told
returns-clause-told c = told-push
