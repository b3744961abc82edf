use Rattle.replica_records.proofs.folding.Folding.is_in_place.Goals as goal

pub returns-in-Head : goal.returns-in-Head
returns-in-Head c = rw c.in-Head.is c.allows_head.ensures

pub returns-in-Install : goal.returns-in-Install
returns-in-Install c = rw c.in-Install.is c.allows_head-in-Install.ensures

pub returns-in-OldHead : goal.returns-in-OldHead
returns-in-OldHead c = rw c.in-OldHead.is c.allows_head-in-OldHead.ensures

pub returns-in-OldInstall : goal.returns-in-OldInstall
returns-in-OldInstall c = rw c.in-OldInstall.is c.allows_head-in-OldInstall.ensures
