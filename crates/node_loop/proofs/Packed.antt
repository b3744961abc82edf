-- messages that wait, after others
use Rattle.std.proofs.Common.{ℕ, ◌∙◌, sym, ap, List, ◌++◌}
use Rattle.std.specs.Prelude.{Result, Ok, Err, OnErr}
use Rattle.std.proofs.lemmas.List.{append_assoc}
use Rattle.xt_base.specs.declared.ids.NodeId.{NodeId}
use Rattle.xt_base.specs.declared.ids.Boot.{Boot}
use Rattle.xt_messages.specs.declared.message.Msg.{Msg}
use Rattle.node_links.specs.declared.link.Datagram.{Datagram}
use Rattle.node_mail.specs.Posts.{datagrams_of_all}
use Rattle.node_mail.specs.declared.packed.Post.{Post}
use Rattle.node_runs.specs.Hearing.{Book}
use Rattle.node_runs.specs.Posting.{Posted, one_posted, none_posted, HasPosted}
use Rattle.node_runs.proofs.Sending.{one-behind}
use Rattle.node_loop.specs.Batched.{WaitsAfter}

-- one message more
pub waits_more : (node : NodeId) (boot : Boot) (book : Book) (before : Posted) (msg : Msg) (count : ℕ) (start between after : List Post)
    → WaitsAfter start between before.datagrams
    → HasPosted (one_posted node boot book (none_posted before.count) msg) count (WaitsAfter between after)
    → HasPosted (one_posted node boot book before msg) count (WaitsAfter start after)
waits_more node boot book before msg count start between after waits one =
    let at = one-behind node boot book before msg in
    let its = (one_posted node boot book (none_posted before.count) msg).datagrams in
    record {
      counted = one.counted ∙ sym (ap (λ (p : Posted). p.count) at);
      went = one.went ∙ ap (λ (ds : List Datagram). ds ++ its) waits ∙ append_assoc (datagrams_of_all start) before.datagrams its
          ∙ ap (λ (ds : List Datagram). datagrams_of_all start ++ ds) (sym (ap (λ (p : Posted). p.datagrams) at));
    }

pub map_on_err : {A B P Q : Type 0} (r : Result A B) → (P → Q) → OnErr r P → OnErr r Q
map_on_err (Ok x) f is = tt
map_on_err (Err e) f is = f is
