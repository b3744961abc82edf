use Rattle.std.proofs.Common.{rules, take, subst, sym, ◌∙◌, List}
use Rattle.node_links.specs.declared.link.Datagram.{Datagram}
use Rattle.node_runs.specs.Links.{Sends}
use Rattle.node_runs.proofs.Sending.{sends_none, sends_join}
use Rattle.node_mail.specs.Posts.{datagrams_of, datagrams_of_all}
use Rattle.node_mail.proofs.Releasing.{datagrams_more}
use Rattle.node_mail.proofs.posting.release_all.Goals as goal

pub loop-post-init : goal.loop-post-init
unfolding sends_none
loop-post-init g c = (search rules, search rules, sends_none (g.L.Link.sent c.args.link.now) (g.L.Link.loss_count c.args.link.now))

pub loop-post-preserved : goal.loop-post-preserved
loop-post-preserved g c =
    let i = c.loop-post.post-index in
    let posts = c.args.posts.now in
    let inv = c.loop-post.invariant in
    let post = c.post-item.result in (
      c.release.ensures.given ∙ inv.0,
      c.release.ensures.faults ∙ inv.1,
      subst (λ (ds : List Datagram). Sends (g.L.Link.sent c.args.link.now) (g.L.Link.sent c.release.new.link) (g.L.Link.loss_count c.args.link.now) (g.L.Link.loss_count c.release.new.link) ds)
          (sym (datagrams_more posts i post c.loop-post-test.true c.post-item.is))
          (sends_join (g.L.Link.sent c.args.link.now) (g.L.Link.sent c.loop-post.link) (g.L.Link.sent c.release.new.link)
          (g.L.Link.loss_count c.args.link.now) (g.L.Link.loss_count c.loop-post.link) (g.L.Link.loss_count c.release.new.link)
          (datagrams_of_all (take i posts)) (datagrams_of post) inv.2 c.release.ensures.sends.0),
    )
