use Rattle.std.proofs.Common.{◌≡◌, inl, ℕ, Some, sym, ◌∙◌, ap, arith, subst}
use Rattle.disk_model.proofs.Moments.{begun}
use Rattle.journal_areas.specs.Kept.{KeepsIn}
use Rattle.journal_areas.specs.Sites.{area_of}
use Rattle.journal_areas.specs.Superblocks.{number_bytes}
use Rattle.journal_areas.specs.declared.superblock.Slot.{Slot}
use Rattle.journal_moves.specs.Answers.{full_need}
use Rattle.journal_moves.specs.Gathering.{gathered, size_of_area}
use Rattle.journal_moves.specs.declared.moving.Refusal.TheVariants.{Broken}
use Rattle.journal_moves.specs.Moves.{IsEither}
use Rattle.journal_areas.specs.declared.superblock.Superblock.{Superblock}
use Rattle.journal_moves.proofs.Areas.{all_in, area_some, longest_given, size_area}
use Rattle.journal_moves.proofs.Steps.{ends_is, is_move, located_is, rests_in}
use Rattle.journal_moves.proofs.Outcomes.{goes_none, same_err}
use Rattle.journal_moves.proofs.moving.move_to.Goals as goal

pub plan-requires : goal.plan-requires
plan-requires g c =
    let D = g.D.Disk in
    let super = c.args.at.now.superblock in
    let end = c.args.at.now.end in
    let kept = D.kept c.args.disk.now in
    let payloads = c.args.payloads.now in
    longest_given D.is_told kept.read payloads (all_in D.is_told kept.read (area_of super end) payloads c.requires.there) c.requires.given

pub buffers_for-requires : goal.buffers_for-requires
buffers_for-requires g c =
    let D = g.D.Disk in
    let super = c.args.at.now.superblock in
    let end = c.args.at.now.end in
    let kept = D.kept c.args.disk.now in
    let payloads = c.args.payloads.now in
    longest_given D.is_told kept.read payloads (all_in D.is_told kept.read (area_of super end) payloads c.requires.there) c.requires.given

pub write_pieces-requires-clause-fit : goal.write_pieces-requires-clause-fit
write_pieces-requires-clause-fit g c =
    let D = g.D.Disk in
    let super = c.args.at.now.superblock in
    let end = c.args.at.now.end in
    let kept = D.kept c.args.disk.now in
    let payloads = c.args.payloads.now in
    longest_given D.is_told kept.read payloads (all_in D.is_told kept.read (area_of super end) payloads c.requires.there) c.requires.given

pub returns-in-Err-clause-any_moment : goal.returns-in-Err-clause-any_moment
returns-in-Err-clause-any_moment g c told old keeps ends =
    let D = g.D.Disk in
    begun D.moment D.left_since c.args.disk.now (IsEither old (gathered D.is_told (D.kept c.args.disk.now).read c.args.payloads.now))
    (λ image left. inl (rests_in c.args.at.now.superblock (D.kept c.args.disk.now) old image keeps (g.met.D.Disk.only_now c.args.disk.now image told left)))

pub returns-in_default-clause-any_moment : goal.returns-in_default-clause-any_moment
returns-in_default-clause-any_moment g c told old keeps ends =
    let D = g.D.Disk in
    begun D.moment D.left_since c.args.disk.now (IsEither old (gathered D.is_told (D.kept c.args.disk.now).read c.args.payloads.now))
    (λ image left. inl (rests_in c.args.at.now.superblock (D.kept c.args.disk.now) old image keeps (g.met.D.Disk.only_now c.args.disk.now image told left)))

pub returns-in_default-clause-no_call : goal.returns-in_default-clause-no_call
returns-in_default-clause-no_call g c told memory =
    let D = g.D.Disk in
    goes_none (D.fails c.args.disk.now)

pub returns-in-Err-clause-full : goal.returns-in-Err-clause-full
returns-in-Err-clause-full g c =
    let D = g.D.Disk in
    let super = c.args.at.now.superblock in
    let end = c.args.at.now.end in
    let kept = D.kept c.args.disk.now in
    let payloads = c.args.payloads.now in
    let size = size_area D.is_told kept.read payloads (all_in D.is_told kept.read (area_of super end) payloads c.requires.there) in
    sym (ap (λ (n : ℕ). full_need super end n c.args.limit) size ∙ c.in-Err.ensures)

pub returns-in_default-clause-full : goal.returns-in_default-clause-full
returns-in_default-clause-full g c =
    let D = g.D.Disk in
    let super = c.args.at.now.superblock in
    let end = c.args.at.now.end in
    let kept = D.kept c.args.disk.now in
    let payloads = c.args.payloads.now in
    let size = size_area D.is_told kept.read payloads (all_in D.is_told kept.read (area_of super end) payloads c.requires.there) in
    sym (ap (λ (n : ℕ). full_need super end n c.args.limit) size ∙ c.in-Ok.ensures.3)

pub returns-in-Ok-write_pieces-clause-full : goal.returns-in-Ok-write_pieces-clause-full
returns-in-Ok-write_pieces-clause-full g c =
    let D = g.D.Disk in
    let super = c.args.at.now.superblock in
    let end = c.args.at.now.end in
    let kept = D.kept c.args.disk.now in
    let payloads = c.args.payloads.now in
    let size = size_area D.is_told kept.read payloads (all_in D.is_told kept.read (area_of super end) payloads c.requires.there) in
    sym (ap (λ (n : ℕ). full_need super end n c.args.limit) size ∙ c.in-Ok.ensures.3)

pub returns-clause-full : goal.returns-clause-full
returns-clause-full g c =
    let D = g.D.Disk in
    let super = c.args.at.now.superblock in
    let end = c.args.at.now.end in
    let kept = D.kept c.args.disk.now in
    let payloads = c.args.payloads.now in
    let size = size_area D.is_told kept.read payloads (all_in D.is_told kept.read (area_of super end) payloads c.requires.there) in
    c.in-Err-write_pieces.ensures.not_full ∙ sym (ap (λ (n : ℕ). full_need super end n c.args.limit) size ∙ c.in-Ok.ensures.3)

pub overflow_sub-result : goal.overflow_sub-result
overflow_sub-result g c = omega (arith, ap (λ (o : Slot). o.first) c.in-Ok.ensures.0, area_some c.args.payloads.now)

pub returns-in-Ok-write_pieces-clause-located : goal.returns-in-Ok-write_pieces-clause-located
returns-in-Ok-write_pieces-clause-located g c =
    let D = g.D.Disk in
    let super = c.args.at.now.superblock in
    let end = c.args.at.now.end in
    let kept = D.kept c.args.disk.now in
    let payloads = c.args.payloads.now in
    let size = size_area D.is_told kept.read payloads (all_in D.is_told kept.read (area_of super end) payloads c.requires.there) in
    located_is super end (size_of_area payloads) c.in-Ok.slot c.in-Ok-write_pieces.superblock (gathered D.is_told kept.read payloads) c.in-Ok-write_pieces.ensures.is c.in-Ok.ensures.0 size

pub returns-in-Ok-write_pieces-clause-ends : goal.returns-in-Ok-write_pieces-clause-ends
returns-in-Ok-write_pieces-clause-ends g c =
    let D = g.D.Disk in
    let super = c.args.at.now.superblock in
    let end = c.args.at.now.end in
    let kept = D.kept c.args.disk.now in
    let payloads = c.args.payloads.now in
    let size = size_area D.is_told kept.read payloads (all_in D.is_told kept.read (area_of super end) payloads c.requires.there) in
    ends_is super end (size_of_area payloads) c.in-Ok.slot c.in-Ok-write_pieces.superblock (gathered D.is_told kept.read payloads) c.in-Ok-write_pieces.ensures.is c.in-Ok.ensures.0 size

pub returns-in-Ok-write_pieces-clause-small : goal.returns-in-Ok-write_pieces-clause-small
returns-in-Ok-write_pieces-clause-small g c =
    omega (
      arith,
      c.in-Ok.ensures.1,
      ap (λ (o : Slot). o.first) c.in-Ok.ensures.0,
      ap (λ (o : Slot). o.place) c.in-Ok.ensures.0,
      area_some c.args.payloads.now,
    )

pub returns-in-Ok-write_pieces-clause-done : goal.returns-in-Ok-write_pieces-clause-done
returns-in-Ok-write_pieces-clause-done g c told old keeps ends =
    let D = g.D.Disk in
    let super = c.args.at.now.superblock in
    let end = c.args.at.now.end in
    let kept = D.kept c.args.disk.now in
    let payloads = c.args.payloads.now in
    let are : c.as_slice.result.now ≡ number_bytes c.in-Ok.slot = cc (c.as_slice.ensures.value, c.in-Ok-buffers_for.ensures.2) in
    let move = is_move D.is_told told super kept end old c.in-Ok.slot payloads c.as_slice.result.now keeps ends c.requires.given c.requires.there c.in-Ok.ensures.0 are c.in-Ok.ensures.2 in
    let lists = gathered D.is_told kept.read payloads in
    subst (λ (u : Superblock). KeepsIn (Some u) (D.kept c.write_pieces.new.disk) lists) (sym c.in-Ok-write_pieces.ensures.is) (c.in-Ok-write_pieces.ensures.done told old lists move)

pub returns-in-Ok-write_pieces-clause-any_moment : goal.returns-in-Ok-write_pieces-clause-any_moment
returns-in-Ok-write_pieces-clause-any_moment g c told old keeps ends =
    let D = g.D.Disk in
    let super = c.args.at.now.superblock in
    let end = c.args.at.now.end in
    let kept = D.kept c.args.disk.now in
    let payloads = c.args.payloads.now in
    let are : c.as_slice.result.now ≡ number_bytes c.in-Ok.slot = cc (c.as_slice.ensures.value, c.in-Ok-buffers_for.ensures.2) in
    let move = is_move D.is_told told super kept end old c.in-Ok.slot payloads c.as_slice.result.now keeps ends c.requires.given c.requires.there c.in-Ok.ensures.0 are c.in-Ok.ensures.2 in
    let lists = gathered D.is_told kept.read payloads in
    c.write_pieces.ensures.any_moment told old lists move

pub returns-clause-any_moment : goal.returns-clause-any_moment
returns-clause-any_moment g c told old keeps ends =
    let D = g.D.Disk in
    let super = c.args.at.now.superblock in
    let end = c.args.at.now.end in
    let kept = D.kept c.args.disk.now in
    let payloads = c.args.payloads.now in
    let are : c.as_slice.result.now ≡ number_bytes c.in-Ok.slot = cc (c.as_slice.ensures.value, c.in-Ok-buffers_for.ensures.2) in
    let move = is_move D.is_told told super kept end old c.in-Ok.slot payloads c.as_slice.result.now keeps ends c.requires.given c.requires.there c.in-Ok.ensures.0 are c.in-Ok.ensures.2 in
    let lists = gathered D.is_told kept.read payloads in
    c.write_pieces.ensures.any_moment told old lists move

pub returns-clause-stopped : goal.returns-clause-stopped
returns-clause-stopped g c told old keeps ends broken =
    let D = g.D.Disk in
    let super = c.args.at.now.superblock in
    let end = c.args.at.now.end in
    let kept = D.kept c.args.disk.now in
    let payloads = c.args.payloads.now in
    let are : c.as_slice.result.now ≡ number_bytes c.in-Ok.slot = cc (c.as_slice.ensures.value, c.in-Ok-buffers_for.ensures.2) in
    let move = is_move D.is_told told super kept end old c.in-Ok.slot payloads c.as_slice.result.now keeps ends c.requires.given c.requires.there c.in-Ok.ensures.0 are c.in-Ok.ensures.2 in
    let lists = gathered D.is_told kept.read payloads in
    c.in-Err-write_pieces.ensures.stopped told old lists move (same_err c.in-Err-write_pieces.why Broken broken)
