use Rattle.std.proofs.Common.{rules, Some, refl, ap, subst}
use Rattle.asked_jobs.specs.Asking.{IsWithin}
use Rattle.xtfs_run.specs.Doing.{replays, audits, makes, serves_directory, serves_metadata, serves_osd, checks, scrubs, sweeps, clusters, commands}
use Rattle.xtfs_run.proofs.Asked.{client_within, cluster_within, ends_in_file, size_within}
use Rattle.xtfs_run.proofs.doing.do_job.Goals as goal

pub run_directory-requires : goal.run_directory-requires
run_directory-requires g c = subst IsWithin c.in-Dir.is c.requires

pub run_metadata-requires : goal.run_metadata-requires
run_metadata-requires g c = subst IsWithin c.in-Mrc.is c.requires

pub run_osd-requires : goal.run_osd-requires
run_osd-requires g c = subst IsWithin c.in-Osd.is c.requires

pub run_sweep-requires : goal.run_sweep-requires
run_sweep-requires g c = subst IsWithin c.in-Sweep.is c.requires

pub run_client-requires : goal.run_client-requires
run_client-requires g c =
    let within = client_within c.args.job.now c.in-Client.client c.in-Client.is c.requires in
    record { dir = within.directory; turns = within.turns; range = ends_in_file c.in-Client.client.order within.range }

pub returns-in-Replay : goal.returns-in-Replay
returns-in-Replay g c =
    replays (ap Some c.in-Replay.is) (record {
      replay = c.run_replay.ensures;
      alone = record {
        given = refl;
        sent = refl;
        losses = refl;
        readings = refl;
        disk = refl;
        link_faults = refl;
        clock_faults = refl;
        childless = record { calls = refl; faults = refl };
      };
    })

pub returns-in-Audit : goal.returns-in-Audit
returns-in-Audit g c =
    audits (ap Some c.in-Audit.is) (record {
      audit = c.audit_text.ensures.audit;
      cause = c.audit_text.ensures.cause;
      complete = c.audit_text.ensures.complete;
      alone = record {
        given = refl;
        sent = refl;
        losses = refl;
        readings = refl;
        disk = refl;
        link_faults = refl;
        clock_faults = refl;
        childless = record { calls = refl; faults = refl };
      };
    })

pub returns-in-Dir : goal.returns-in-Dir
returns-in-Dir g c =
    serves_directory c.in-Dir.serving (ap Some c.in-Dir.is) (record {
      node = c.run_directory.ensures;
      unread = record { left = refl; faults = refl };
      childless = record { calls = refl; faults = refl };
    })

pub returns-in-Mrc : goal.returns-in-Mrc
returns-in-Mrc g c =
    serves_metadata c.in-Mrc.dir c.in-Mrc.serving (ap Some c.in-Mrc.is) (record {
      node = c.run_metadata.ensures;
      unread = record { left = refl; faults = refl };
      childless = record { calls = refl; faults = refl };
    })

pub returns-in-Osd : goal.returns-in-Osd
returns-in-Osd g c =
    serves_osd c.in-Osd.id c.in-Osd.dir c.in-Osd.serving (ap Some c.in-Osd.is) (record {
      node = c.run_osd.ensures;
      unread = record { left = refl; faults = refl };
      childless = record { calls = refl; faults = refl };
    })

pub returns-in-Check : goal.returns-in-Check
returns-in-Check g c =
    checks c.in-Check.store c.in-Check.limit (ap Some c.in-Check.is) (record {
      command = c.run_check.ensures;
      unread = record { left = refl; faults = refl };
      offline = record { given = refl; sent = refl; losses = refl; faults = refl };
      timeless = record { readings = refl; faults = refl };
      childless = record { calls = refl; faults = refl };
    })

pub returns-in-Scrub : goal.returns-in-Scrub
returns-in-Scrub g c =
    scrubs c.in-Scrub.store c.in-Scrub.limit (ap Some c.in-Scrub.is) (record {
      command = c.run_scrub.ensures;
      unread = record { left = refl; faults = refl };
      offline = record { given = refl; sent = refl; losses = refl; faults = refl };
      timeless = record { readings = refl; faults = refl };
      childless = record { calls = refl; faults = refl };
    })

pub returns-in-Sweep : goal.returns-in-Sweep
returns-in-Sweep g c =
    sweeps c.in-Sweep.sweep (ap Some c.in-Sweep.is) (record {
      command = c.run_sweep.ensures;
      unread = record { left = refl; faults = refl };
      offline = record { given = refl; sent = refl; losses = refl; faults = refl };
      childless = record { calls = refl; faults = refl };
    })

pub returns-in-Client : goal.returns-in-Client
returns-in-Client g c =
    commands c.in-Client.client (ap Some c.in-Client.is) (record {
      command = c.run_client.ensures;
      disk = refl;
      childless = record { calls = refl; faults = refl };
    })

pub make-requires : goal.make-requires
make-requires g c = (search rules, (search rules, size_within c.args.job.now c.in-Make.number c.in-Make.size c.in-Make.is c.requires))

pub returns-in-Make : goal.returns-in-Make
returns-in-Make g c =
    makes c.in-Make.number c.in-Make.size (ap Some c.in-Make.is) (record {
      make = c.make.ensures;
      unread = record { left = refl; faults = refl };
      alone = record {
        given = refl;
        sent = refl;
        losses = refl;
        readings = refl;
        disk = refl;
        link_faults = refl;
        clock_faults = refl;
        childless = record { calls = refl; faults = refl };
      };
    })

pub run_cluster-status-requires-clause-turns : goal.run_cluster-status-requires-clause-turns
run_cluster-status-requires-clause-turns g c = (cluster_within c.args.job.now c.in-Cluster.cluster c.in-Cluster.is c.requires).turns

pub run_cluster-status-requires-clause-port : goal.run_cluster-status-requires-clause-port
run_cluster-status-requires-clause-port g c = (cluster_within c.args.job.now c.in-Cluster.cluster c.in-Cluster.is c.requires).port.1

pub run_cluster-status-requires-clause-some : goal.run_cluster-status-requires-clause-some
run_cluster-status-requires-clause-some g c = (cluster_within c.args.job.now c.in-Cluster.cluster c.in-Cluster.is c.requires).secret.some

pub run_cluster-status-requires-clause-short : goal.run_cluster-status-requires-clause-short
run_cluster-status-requires-clause-short g c = (cluster_within c.args.job.now c.in-Cluster.cluster c.in-Cluster.is c.requires).secret.short

pub returns-in-Cluster : goal.returns-in-Cluster
returns-in-Cluster g c =
    clusters c.in-Cluster.cluster (ap Some c.in-Cluster.is) (record { cluster = c.run_cluster-status.ensures; disk = refl })
