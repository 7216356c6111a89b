use Rattle.uz_paths.proofs.FewResults.{few_results}
use Rattle.uz_paths.proofs.linking.Linking.successors_of.Goals as goal

pub put_results_of-requires-clause-few : goal.put_results_of-requires-clause-few
put_results_of-requires-clause-few c = few_results c.args.self.now.image.now c.args.self.now.program.now c.args.at.now
