use Rattle.sel_gather.proofs.Common.{◌≡◌, ◌++◌, ◌∙◌, ap, arith, length, map, pos, replicate, binary_rows, Null, ends_from, pick, unrolled}
use Rattle.sel_gather.proofs.ValidBytes.{live_bits}
use Rattle.sel_gather.proofs.binary.push_run.Goals as goal

pub returns-clause-rows : goal.returns-clause-rows
returns-clause-rows c =
    let xss = map (λ s. binary_rows s.now) c.args.sources.now in
    let rows = pick Null xss (unrolled c.args.run) in
    let before : c.len-before.result ≡ length c.args.joined.now.bytes.items = omega arith in
    record {
      ends = c.in_ok-push_ends.ensures.ends ∙ ap (λ n. c.args.joined.now.ends.items ++ map pos (ends_from n rows)) before;
      bytes = c.in_ok-extend_from_slice.ensures.items ∙ ap (λ l. c.args.joined.now.bytes.items ++ l) c.bytes_of.ensures;
      bits = c.in_ok-extend_constant.ensures.extended ∙ ap (λ b. c.args.joined.now.validity ++ replicate c.args.run.len b) c.is_some.ensures
          ∙ ap (λ l. c.args.joined.now.validity ++ l) (live_bits xss c.args.run c.requires.live);
    }
