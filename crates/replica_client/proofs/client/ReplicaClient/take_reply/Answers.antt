use Rattle.xt_messages.specs.declared.reply.Reply.TheVariants as reply
use Rattle.replica_client.proofs.Acted.{reply_taken}
use Rattle.replica_client.proofs.client.ReplicaClient.take_reply.Goals as goal

pub returns-in-NoMajority-clause-row : goal.returns-in-NoMajority-clause-row
returns-in-NoMajority-clause-row c =
    reply_taken c.turn_away_by-in-NoMajority.result c.args.now c.args.self.now c.turn_away_by-in-NoMajority.new.self c.args.from c.args.reply.now
    (reply.NoMajority c.in-NoMajority.have c.in-NoMajority.need) c.in-NoMajority.is c.turn_away_by-in-NoMajority.ensures.row

pub returns-in-Elsewhere-clause-row : goal.returns-in-Elsewhere-clause-row
returns-in-Elsewhere-clause-row c =
    reply_taken c.turn_away_by-in-Elsewhere.result c.args.now c.args.self.now c.turn_away_by-in-Elsewhere.new.self c.args.from c.args.reply.now
    (reply.Elsewhere c.in-Elsewhere.node c.in-Elsewhere.end) c.in-Elsewhere.is c.turn_away_by-in-Elsewhere.ensures.row
