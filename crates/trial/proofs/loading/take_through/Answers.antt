use Rattle.std.proofs.Common.{rules, ◌≡◌, ◌∙◌, [], drop, length, map, sym, ap, subst}
use Rattle.std.specs.List.{All}
use Rattle.std.proofs.lemmas.List.{get_or_default, take_at}
use Rattle.trial.specs.Good.{filled}
use Rattle.trial.specs.Played.{Trial}
use Rattle.trial.specs.Lists.{AreasWhole, asked, blocks_read, read_list, write_list}
use Rattle.volume.proofs.Outcomes.{lawful_of}
use Rattle.volume.proofs.Results.{ok_not_err}
use Rattle.volume.specs.Refusals.{reason, told}
use Rattle.volume.specs.Story.{state}
use Rattle.volume.specs.View.{base}
use Rattle.trial.proofs.Through.{format_goes, goes_through}
use Rattle.trial.proofs.loading.take_through.Goals as goal

pub unreachable-requires : goal.unreachable-requires
unreachable-requires g c =
    let b = base g.D.Source g.T.Source g.D.Device g.T.Device g.H.Hash in
    let lawful = lawful_of g.met.D.Source.keeps g.met.T.Source.keeps g.met.D.Device.keeps_writes g.met.T.Device.keeps_writes (λ key block. (g.met.H.Hash.cell key block).long) in
    let goes =
    format_goes b lawful c.args.volume.now c.args.blocks c.requires.good c.format.new.self c.blank-register.result c.format.new.register (told c.format.result) c.format.ensures.step in
    ok_not_err tt (reason c.in_default.field-0) (sym goes ∙ ap told c.in_default.is)

pub returns : goal.returns
returns g c =
    let b = base g.D.Source g.T.Source g.D.Device g.T.Device g.H.Hash in
    let lawful = lawful_of g.met.D.Source.keeps g.met.T.Source.keeps g.met.D.Device.keeps_writes g.met.T.Device.keeps_writes (λ key block. (g.met.H.Hash.cell key block).long) in
    let a = c.args in
    let whole : All (λ x. length x ≡ 512) a.sims.now = λ k d h. ap length (get_or_default a.sims.now k d [] h) ∙ c.told-sims k h in
    let puts : map asked c.deref_mut.result.now ≡ write_list a.sims.now = search rules in
    let gets : map asked c.deref_mut-2.result.now ≡ read_list a.blocks = search rules in
    let t =
    goes_through b lawful a.volume.now a.blocks c.requires.good c.format.new.self c.blank-register.result c.format.new.register (told c.format.result) c.format.ensures.step a.sims.now c.requires.few whole
    c.deref_mut.result.now c.play.new.list c.deref_mut-2.result.now c.play-2.new.list (state c.play.new.volume c.play.new.register) (state c.play-2.new.volume c.play-2.new.register) puts gets
    c.play.ensures c.play-2.ensures in
    let long : length c.play-2.new.list ≡ c.in_ok-read.read.len = search rules in
    let came : c.deref.result.now ≡ c.play-2.new.list = c.deref.ensures.value ∙ take_at c.play-2.new.list (drop (length c.play-2.new.list) c.in_ok-read.read.items) c.in_ok-read.read.len long in
    let back : c.in_ok-blocks_back.field-0.items ≡ blocks_read c.play-2.new.list =
    subst (λ l. AreasWhole l → c.in_ok-blocks_back.field-0.items ≡ blocks_read l) came c.in_ok-blocks_back.ensures t.whole in
    let same : c.in_ok-blocks_back.field-0.items ≡ filled a.sims.now a.blocks = back ∙ t.gave in
    record {
      trial = subst (λ x. Trial b a.volume.now.number a.volume.now.hash a.sims.now a.blocks x c.play-2.new.register) (sym back) t.trial;
      read_back = same;
      entered = t.entered;
    }
