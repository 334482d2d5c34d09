use Rattle.std.proofs.Common.{◌≡◌, length, take, Ok, Err, sym, refl, subst, arith, length-take}
use Rattle.roundtrip.proofs.Backs.{Kept, not_listed, listed_line, invalid, passed, passed_err}
use Rattle.roundtrip.proofs.assemble_back.Goals as goal

pub returns-in_default : goal.returns-in_default
returns-in_default c =
    let p = invalid c.args.word c.args.image.now c.args.lines.now (not_listed c.args.word _ c.in_default.field-0 (omega arith) refl c.in_default.ensures.answer) in
    record { answer = p.answer; image = p.image; lines = p.lines; back = p.back }

pub slice_bounds-buffer-end : goal.slice_bounds-buffer-end
slice_bounds-buffer-end c =
    let listed = listed_line c.args.word _ c.list.new.buffer c.in-Ok.n (omega arith) refl c.in-Ok.ensures.answer c.in-Ok.ensures.buffer in
    let long : c.in-Ok.n ≡ length (take c.in-Ok.n c.list.new.buffer) = listed.long in
    omega (arith, length-take c.in-Ok.n c.list.new.buffer)

pub slice_bounds-assemble-end : goal.slice_bounds-assemble-end
slice_bounds-assemble-end c = (listed_line c.args.word _ c.list.new.buffer c.in-Ok.n (omega arith) refl c.in-Ok.ensures.answer c.in-Ok.ensures.buffer).long

pub returns-in_err-assemble : goal.returns-in_err-assemble
returns-in_err-assemble c =
    let listed = listed_line c.args.word _ c.list.new.buffer c.in-Ok.n (omega arith) refl c.in-Ok.ensures.answer c.in-Ok.ensures.buffer in
    let p = passed c.args.word _ _ c.args.image.now c.assemble.new.image c.args.lines.now c.assemble.new.lines (Err c.in_err-assemble.field-0.0) (omega arith) listed c.in_err-assemble.ensures.answer c.assemble.ensures.image c.assemble.ensures.lines in
    let q = subst (Kept c.args.word c.args.image.now c.assemble.new.image c.args.lines.now c.assemble.new.lines) (sym (passed_err c.from_residual.result c.in_err-assemble.field-0.0 c.from_residual.ensures)) p in
    record { answer = q.answer; image = q.image; lines = q.lines; back = q.back }

pub returns : goal.returns
returns c =
    let listed = listed_line c.args.word _ c.list.new.buffer c.in-Ok.n (omega arith) refl c.in-Ok.ensures.answer c.in-Ok.ensures.buffer in
    let p = passed c.args.word _ _ c.args.image.now c.assemble.new.image c.args.lines.now c.assemble.new.lines (Ok c.in_ok-assemble.field-0) (omega arith) listed c.in_ok-assemble.ensures.answer c.assemble.ensures.image c.assemble.ensures.lines in
    record { answer = p.answer; image = p.image; lines = p.lines; back = p.back }
