use Rattle.std.proofs.Common.{◌≡◌, ◌++◌, ap, map, drop, Some, sym, ◌∙◌, rules, ◌+◌, List}
use Rattle.std.proofs.lemmas.List.{get_or_default, take_rest}
use Rattle.xt_base.specs.declared.ids.NodeId.{NodeId}
use Rattle.xt_messages.specs.declared.file.Location.{Location}
use Rattle.change_rows.specs.Changes.{next_members}
use Rattle.change_rows.specs.Coordinating.{Running, install_to, all_reminders, chosen}
use Rattle.list_coordinator.proofs.Places.{rise-set}
use Rattle.list_coordinator.proofs.Wakes.{chosen_there}
use Rattle.list_coordinator.proofs.changes.Changes.choose.Goals as goal

pub invariant_of-self : goal.invariant_of-self
invariant_of-self c =
    record {
      rise =
          rise-set c.args.self.now.files.items c.args.ripe.place c.index_mut.result.now c.choose.new.self c.args.self.now.rise c.requires c.index_mut.ensures.value
          (ap (λ (x : Running). x.change.file) c.choose.ensures);
    }

pub returns-clause-ok : goal.returns-clause-ok
returns-clause-ok c =
    let items = c.args.self.now.files.items in
    let place = c.args.ripe.place in
    let same : c.index.result.now ≡ c.index_mut.result.now =
    c.index.ensures ∙ get_or_default items place c.index.result.now c.index_mut.result.now c.requires ∙ sym c.index_mut.ensures.value
    in
    let members : c.as_slice.result.now ≡ next_members c.index_mut.result.now.change =
    c.as_slice.ensures.list ∙ ap (λ (l : Location). l.members) c.next.ensures ∙ ap (λ (r : Running). next_members r.change) same
    in
    let installed : c.install_each.new.outs ≡ c.args.outs ++ map (install_to c.args.ripe.choice) (next_members c.index_mut.result.now.change) =
    c.in_ok-install_each.ensures ∙ ap (λ (nodes : List NodeId). c.args.outs ++ map (install_to c.args.ripe.choice) nodes) members
    in
    let later : c.ask_all.new.outs ≡ c.install_each.new.outs ++ all_reminders (drop (place + 1) items) =
    c.in_ok-ask_all.ensures
    ∙ ap (λ (rs : List Running). c.install_each.new.outs ++ all_reminders rs) (take_rest c.as_slice-2.result.now (place + 1))
    ∙ ap (λ (rs : List Running). c.install_each.new.outs ++ all_reminders (drop (place + 1) rs)) c.as_slice-2.ensures.value
    in
    let kept : c.in_ok-rec.rec ≡ Some (chosen c.args.ripe.choice) = search rules in
    chosen_there items place c.index_mut.result.now c.choose.new.self c.args.outs c.install_each.new.outs c.ask_all.new.outs c.args.ripe.choice c.in_ok-rec.rec c.new.result c.requires
    c.index_mut.ensures.value c.choose.ensures installed later kept c.new.ensures
